use Rattle.std.proofs.Common.{◌≡◌}
use Rattle.round_shares.specs.Crew.{real_waiting}
use Rattle.steal_rounds.proofs.ChangedItems.{changed_to}
use Rattle.steal_rounds.proofs.gathering.place_left.Given as goal

abbrev pub invariant-loop-waiting : goal.invariant-loop-waiting
invariant-loop-waiting l = l.left ≡ changed_to (real_waiting l.starts) l.waiting-index l.fn.left
