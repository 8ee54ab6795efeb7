use Rattle.std.proofs.Common.{◌≡◌, ◌++◌, map}
use Rattle.std.specs.VecDeque.{deque_len}
use Rattle.node_sources.specs.Source.{waiting}
use Rattle.node_sources.proofs.settling.add_left.Given as goal

abbrev pub invariant-loop-node : goal.invariant-loop-node
invariant-loop-node l = l.rest.items ++ map waiting l.left.items ≡ l.initial.rest.items ++ map waiting l.fn.left.items

abbrev pub decreases-loop-node : goal.decreases-loop-node
decreases-loop-node l = deque_len l.left
