use Rattle.std.proofs.Common.{◌≡◌, ◌++◌, map}
use Rattle.std.specs.VecDeque.{deque_len}
use Rattle.steal_rounds.specs.Whole.{by_worker}
use Rattle.steal_rounds.proofs.gathering.shown_by.Given as goal

abbrev pub invariant-notes : goal.invariant-notes
invariant-notes l = l.shown.items ++ map (by_worker l.worker) l.notes.items ≡ map (by_worker l.worker) l.initial.notes.items

abbrev pub decreases-notes : goal.decreases-notes
decreases-notes l = deque_len l.notes
