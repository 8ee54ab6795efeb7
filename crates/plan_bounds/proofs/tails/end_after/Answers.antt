use Rattle.std.proofs.Common.{arith}
use Rattle.precedence_tree.proofs.LongestTails.{tail-one}
use Rattle.plan_bounds.proofs.TailSteps.{tail-own}
use Rattle.plan_bounds.proofs.tails.end_after.Goals as goal

pub returns-clause-value : goal.returns-clause-value
returns-clause-value c = λ t is.
    let same = tail-one c.args.project.now c.args.active.entry.job c.tail.result t c.tail.ensures.value is in
    let own = tail-own c.args.project.now c.args.active.entry.job t is in
    let least = c.least_duration.ensures.value in
    omega arith
