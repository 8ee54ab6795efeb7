use Rattle.std.proofs.Common.{ℕ, sym, subst}
use Rattle.crossbeam_deque.specs.Handles.{worker_view}
use Rattle.crossbeam_deque.specs.Tasks.{Forks}
use Rattle.node_deques.specs.Rule.{HoldsBetweenSteps}
use Rattle.node_deques.specs.Views.{with_thief, thief_view}
use Rattle.node_deques.proofs.Steps.{splits}
use Rattle.node_deques.proofs.deque.NodeDeque.thief.Goals as goal

pub another-pass-requires : goal.another-pass-requires
another-pass-requires c =
    let v = worker_view c.self.inside.nodes in subst (λ (p : ℕ). Forks HoldsBetweenSteps p v (with_thief v) (thief_view v)) (sym c.self.invariant.first) (splits v)
