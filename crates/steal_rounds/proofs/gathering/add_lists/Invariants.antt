use Rattle.std.proofs.Common.{◌≡◌, ◌++◌, map}
use Rattle.std.specs.VecDeque.{deque_len}
use Rattle.round_shares.specs.Crew.{real_waiting}
use Rattle.steal_rounds.specs.Whole.{all_lists}
use Rattle.steal_rounds.proofs.gathering.add_lists.Given as goal

abbrev pub invariant-loop-list : goal.invariant-loop-list
invariant-loop-list l = l.left.items ++ map (real_waiting l.starts) (all_lists l.lists.items) ≡ l.initial.left.items ++ map (real_waiting l.starts) (all_lists l.initial.lists.items)

abbrev pub decreases-loop-list : goal.decreases-loop-list
decreases-loop-list l = deque_len l.lists
