use Rattle.std.proofs.Common.{◌≡◌, ◌-◌, ◌++◌, List, length}
use Rattle.node_deques.specs.declared.node.DequeNode.{DequeNode}
use Rattle.node_deques.specs.Views.{with_taken}
use Rattle.node_deques.proofs.deque.NodeDeque.empty_into.Given as goal

abbrev pub invariant-loop-self : goal.invariant-loop-self
invariant-loop-self l = (more : List DequeNode) × (l.self.view ≡ with_taken more l.initial.self.view) × (l.left.items ≡ l.initial.left.items ++ more)

abbrev pub decreases-loop-self : goal.decreases-loop-self
decreases-loop-self l = length l.self.view.accepted - length l.self.view.taken
