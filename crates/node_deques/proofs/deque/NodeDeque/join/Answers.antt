use Rattle.std.proofs.Common.{ℕ, sym, subst}
use Rattle.crossbeam_deque.specs.Handles.{worker_view, view}
use Rattle.crossbeam_deque.specs.Tasks.{Merges}
use Rattle.node_deques.specs.Rule.{HoldsBetweenSteps}
use Rattle.node_deques.specs.Views.{joint_view, spent_view}
use Rattle.node_deques.proofs.Steps.{joins}
use Rattle.node_deques.proofs.deque.NodeDeque.join.Goals as goal

pub absorb-requires-clause-rule : goal.absorb-requires-clause-rule
absorb-requires-clause-rule c =
    let v = worker_view c.self.inside.nodes in let pass = c.into_pass-pass.result in let u = view pass in
    subst (λ (p : ℕ). Merges HoldsBetweenSteps p v pass.id u (joint_view v u) spent_view) (sym c.self.invariant.first) (joins v pass.id u)
