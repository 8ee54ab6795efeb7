use Rattle.std.proofs.Common.{ℕ, sym, subst}
use Rattle.crossbeam_deque.specs.Handles.{worker_view}
use Rattle.crossbeam_deque.specs.Tasks.{Forks}
use Rattle.node_deques.specs.Rule.{HoldsBetweenSteps}
use Rattle.node_deques.specs.Views.{with_terms, spent_view}
use Rattle.node_deques.proofs.Steps.{agrees}
use Rattle.node_deques.proofs.deque.agree_on.Goals as goal

pub another-requires : goal.another-requires
another-requires g c =
    let v = worker_view c.args.nodes.now in let t = g.A.Agreed.terms in
    subst (λ (p : ℕ). Forks HoldsBetweenSteps p v (with_terms t v) spent_view) (sym c.requires.port) (agrees t v c.requires.none)
