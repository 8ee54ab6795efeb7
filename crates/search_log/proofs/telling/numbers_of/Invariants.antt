use Rattle.std.proofs.Common.{◌≡◌, length}
use Rattle.search_log.proofs.PlaceNumbers.{HasNumbers}
use Rattle.search_log.proofs.telling.numbers_of.Given as goal

abbrev pub invariant-loop-i : goal.invariant-loop-i
invariant-loop-i l = record { size : length l.numbers.items ≡ l.size; so_far : HasNumbers l.numbers.items l.order l.i }
