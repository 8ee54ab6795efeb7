-- The log that a table tells.
use Rattle.std.specs.Prelude.{◌≡◌, ℕ, ◌+◌, Option, Some, None, List, map, min, slice_get, slice_index, slice_index_or, ◌==◌, if◌then◌else◌, Contains}
use Rattle.rcpsp_model.specs.declared.parts.Verdict.{Verdict}
use Rattle.rcpsp_model.specs.declared.parts.Verdict.TheVariants.{Limit}
use Rattle.rcpsp_model.specs.Chain.{IsLeast}
use Rattle.proof_log.specs.declared.report.LogLine.{LogLine}
use Rattle.log_truth.specs.Fates.{late_left}
use Rattle.search_log.specs.declared.row.Row.{Row}
use Rattle.search_log.specs.declared.row.Origin.{Origin}
use Rattle.search_log.specs.Fates.{row_late}
use Rattle.search_log.specs.Table.{row_at, says_at, IsPreorder}
use Rattle.search_log.specs.Stands.{searching, line_of}

-- the number of a place, from 1, is that of its line
pub record HasNumber (numbers order : List ℕ) (q : ℕ) : Type 0 where
  pub index : ℕ
  pub number : slice_index numbers q ≡ index + 1
  pub stands : slice_get order index ≡ Some q

abbrev pub AreNumbered : List ℕ → List ℕ → Type 0
AreNumbered numbers order = (q : ℕ) → Contains order q → HasNumber numbers order q

-- the lines are those of the places in preorder, with the numbers of lines in place of places
pub record Tells (T : List Row) (lines : List LogLine) : Type 0 where
  pub numbers : List ℕ
  pub order : List ℕ
  pub walk : IsPreorder T order
  pub numbered : AreNumbered numbers order
  pub are : lines ≡ map (λ p. line_of numbers (row_at T p)) order

-- Origins.

abbrev pub no_origin : Origin
no_origin = record { round = 0; worker = 0; turn = 0 }

abbrev pub origin_at : List Origin → ℕ → Origin
origin_at O p = slice_index_or O p no_origin

-- where the node was closed after the last round, the turn is the number of its line
abbrev pub told_origin : ℕ → Origin → Origin
told_origin number origin = if origin.worker == 0 then record origin { turn = number } else origin

-- and with each line its origin
pub record TellsAll (T : List Row) (O : List Origin) (lines : List LogLine) (origins : List Origin) : Type 0 where
  pub lines_of : Tells T lines
  pub origins_of : origins ≡ map (λ p. told_origin (slice_index lines_of.numbers p) (origin_at O p)) lines_of.order

-- The verdict.

-- the least number that has the property, and none where none has it
abbrev pub IsLeastIfAny : (ℕ → Type 0) → Option ℕ → Type 0
IsLeastIfAny Q (Some b) = IsLeast Q b
IsLeastIfAny Q None = (b : ℕ) → Q b → ⊥

-- a row was left with the number b
pub record IsLeftAt (T : List Row) (b : ℕ) : Type 0 where
  pub place : ℕ
  pub is : says_at T place ≡ row_late (late_left b)

-- the least number of a row that was left
abbrev pub IsLeastLeft : List Row → Option ℕ → Type 0
IsLeastLeft T lower = IsLeastIfAny (IsLeftAt T) lower

-- the lesser of two numbers, of which the first may be missing
abbrev pub lesser_of : Option ℕ → ℕ → ℕ
lesser_of (Some a) b = min a b
lesser_of None b = b

-- by the least end and the least number of what was left
abbrev pub verdict_of : Option ℕ → Option ℕ → Verdict
verdict_of best None = searching best
verdict_of best (Some lower) = Limit best lower
