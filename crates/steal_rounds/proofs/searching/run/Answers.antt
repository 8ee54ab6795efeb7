use Rattle.std.proofs.Common.{ℕ, subst, Option}
use Rattle.std.specs.Prelude.{IfOk}
use Rattle.search_rounds.specs.Found.{IsEnded}
use Rattle.steal_rounds.proofs.searching.run.Goals as goal

pub returns : goal.returns
returns g c =
    let P = c.args.project.now in
    let w = c.args.workers in
    let n = c.args.nodes in
    subst (λ (first : Option ℕ). IfOk c.finish.result (IsEnded P w n first)) c.rounds.invariant.first (c.finish.ensures w c.rounds.invariant.goes)
