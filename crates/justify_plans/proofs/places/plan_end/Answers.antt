use Rattle.std.proofs.Common.{arith, ◌∙◌}
use Rattle.project_net.proofs.ScheduleEnds.{ord_max_is}
use Rattle.justify_plans.proofs.JobByJob.{end-next, end-none}
use Rattle.justify_plans.proofs.places.plan_end.Goals as goal

pub loop-done-preserved : goal.loop-done-preserved
loop-done-preserved c =
    let whole = c.requires.placed.whole in let jobs = c.jobs-done-end.ensures.value in let test = c.loop-done-test.true in
    let value = c.finish_of.ensures.value in
    let short = c.finish_of.ensures.limit in
    let more = end-next c.args.project.now c.args.places.now c.loop-done.done (omega arith) in
    let greatest = c.max-end.ensures ∙ ord_max_is c.loop-done.end c.finish_of.result in
    let old = c.loop-done.invariant.end in let top = c.loop-done.invariant.limit in
    record { end = omega arith; limit = omega arith }

pub returns-clause-value : goal.returns-clause-value
returns-clause-value c =
    let whole = c.requires.placed.whole in let jobs = c.jobs-done-end.ensures.value in let test = c.loop-done-test.false in
    let none = end-none c.args.project.now c.args.places.now c.loop-done.done (omega arith) in
    let old = c.loop-done.invariant.end in
    omega arith
