use Rattle.std.proofs.Common.{◌≡◌, ℕ, ◌+◌}
use Rattle.std.specs.VecDeque.{deque_len}
use Rattle.search_log.specs.Weights.{total}
use Rattle.node_deques.specs.declared.node.DequeNode.{DequeNode}
use Rattle.node_sources.specs.Source.{stolen}
use Rattle.node_sources.specs.Joins.{AreServed, popped, accepted}
use Rattle.node_sources.proofs.settling.join_all.Given as goal

abbrev pub invariant-loop-reach : goal.invariant-loop-reach
invariant-loop-reach l = record {
  served : AreServed l.rest.items l.deques;
  accepted : accepted l.deques ≡ accepted l.initial.deques;
  taken : (weight : DequeNode → ℕ) → total weight (popped l.deques) + total weight (stolen l.rest.items) ≡ total weight (popped l.initial.deques) + total weight (stolen l.fn.reaches.items);
}

abbrev pub decreases-loop-reach : goal.decreases-loop-reach
decreases-loop-reach l = deque_len l.rest
