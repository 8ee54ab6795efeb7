use Rattle.std.proofs.Common.{◌≡◌}
use Rattle.round_shares.specs.Crew.{real_record}
use Rattle.steal_rounds.proofs.ChangedItems.{changed_to}
use Rattle.steal_rounds.proofs.gathering.place_made.Given as goal

abbrev pub invariant-loop-placed : goal.invariant-loop-placed
invariant-loop-placed l = l.made ≡ changed_to (real_record l.starts) l.placed-index l.fn.made
