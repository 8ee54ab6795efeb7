use Rattle.std.proofs.Common.{ℕ, [], ◌∷◌, sym, refl, subst}
use Rattle.crossbeam_deque.specs.Handles.{worker_view}
use Rattle.crossbeam_deque.specs.Tasks.{Pushes}
use Rattle.node_deques.specs.declared.node.DequeNode.{DequeNode}
use Rattle.node_deques.specs.Nodes.{IsOnEach}
use Rattle.node_deques.specs.Views.{next_node}
use Rattle.node_deques.specs.Rule.{HoldsBetweenSteps}
use Rattle.node_deques.specs.Steps.{Accepts}
use Rattle.node_deques.specs.Handles.{HandleState}
use Rattle.node_deques.proofs.Steps.{pushes}
use Rattle.node_deques.proofs.deque.NodeDeque.push.Goals as goal

pub push_as-requires-clause-pushes : goal.push_as-requires-clause-pushes
push_as-requires-clause-pushes c =
    let v = worker_view c.self.inside.nodes in let place = c.args.place in let node = c.args.node in
    let on : IsOnEach v.terms (next_node v place node) = subst (λ (s : HandleState). IsOnEach s.view.terms (next_node s.view place node)) (sym c.self.view_is) c.requires in
    let numbered = subst (λ (n : ℕ). Pushes HoldsBetweenSteps 0 v (record { number = n; place = place; node = node } ∷ []) (Accepts v (record { number = n; place = place; node = node } ∷ [])))
    (sym c.self.invariant.count) (pushes v (next_node v place node) refl on) in
    let x : DequeNode = record { number = c.self.inside.accepted; place = place; node = node } in
    subst (λ (p : ℕ). Pushes HoldsBetweenSteps p v (x ∷ []) (Accepts v (x ∷ []))) (sym c.self.invariant.first) numbered
