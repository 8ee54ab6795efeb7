use Rattle.std.proofs.Common.{ℕ, subst, Option}
use Rattle.std.specs.Prelude.{IfOk}
use Rattle.search_rounds.specs.Found.{IsEnded}
use Rattle.steal_rounds.proofs.searching.search_from.Goals as goal

pub returns-in-Some : goal.returns-in-Some
returns-in-Some g c =
    let P = c.args.project.now in
    let w = c.args.workers in
    let n = c.args.nodes in
    subst (λ (first : Option ℕ). IfOk c.found_gap.result (IsEnded P w n first)) c.of_plan-best.ensures.end (c.found_gap.ensures w n)
