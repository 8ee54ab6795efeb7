use Rattle.std.proofs.Common.{◌≡◌}
use Rattle.round_shares.specs.Crew.{real_fill}
use Rattle.steal_rounds.proofs.ChangedItems.{changed_to}
use Rattle.steal_rounds.proofs.gathering.place_fills.Given as goal

abbrev pub invariant-loop-fill : goal.invariant-loop-fill
invariant-loop-fill l = l.fills ≡ changed_to (real_fill l.starts) l.fill-index l.fn.fills
