-- What a worker's cells have missed.
use Rattle.std.specs.Prelude.{ℕ}

-- how many sets were refused, and how many reads found a cell empty
pub record Misses : Type 0 where
  pub refused : ℕ
  pub empty : ℕ
