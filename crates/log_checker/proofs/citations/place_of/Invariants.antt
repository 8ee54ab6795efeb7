use Rattle.std.proofs.Common.{ℕ, ◌-◌, ◌<◌, ◌≤◌, length}
use Rattle.std.specs.Prelude.{slice_index}
use Rattle.log_checker.specs.Citations.{numbers_of, Ascends}
use Rattle.log_checker.proofs.citations.place_of.Given as goal

-- the numbers before the part that is left are less, and those behind it greater
abbrev pub invariant-loop-low : goal.invariant-loop-low
invariant-loop-low l = record {
  order : l.low ≤ l.high;
  within : l.high ≤ length l.grown;
  before : Ascends (numbers_of l.grown) → (i : ℕ) → i < l.low → slice_index (numbers_of l.grown) i < l.line;
  behind : Ascends (numbers_of l.grown) → (i : ℕ) → l.high ≤ i → i < length l.grown → l.line < slice_index (numbers_of l.grown) i;
}

abbrev pub decreases-loop-low : goal.decreases-loop-low
decreases-loop-low l = l.high - l.low
