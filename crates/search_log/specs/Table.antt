-- The rows of a table. The children of an expanded row lie in it side by side, and a walk from the root passes each row
-- once.
use Rattle.std.specs.Prelude.{◌≡◌, ℕ, ◌+◌, ◌<◌, None, List, [], ◌∷◌, ◌++◌, length, slice_index_or}
use Rattle.rcpsp_model.specs.declared.parts.Shut.TheVariants.{NoCapacity}
use Rattle.rcpsp_model.specs.Project.{numbers_from}
use Rattle.search_log.specs.declared.row.RowFate.TheVariants.{Shut}
use Rattle.search_log.specs.declared.row.Row.{Row}
use Rattle.search_log.specs.Weights.{total, over, places_weight, Each}
use Rattle.search_log.specs.Fates.{RowSaying, row_expanded, row_saying}

-- what is read past the end
abbrev pub no_row : Row
no_row = record { start = None; fate = Shut (NoCapacity 0); job = 0; mode = 0 }

abbrev pub row_at : List Row → ℕ → Row
row_at T p = slice_index_or T p no_row

abbrev pub says_row : Row → RowSaying
says_row r = row_saying r.fate

-- what the row at a place says
abbrev pub says_at : List Row → ℕ → RowSaying
says_at T p = says_row (row_at T p)

-- the places of the children
abbrev pub children_of : RowSaying → List ℕ
children_of (row_expanded first count) = numbers_from first count
children_of _ = []

-- what the places of all children weigh
abbrev pub children_weight : (ℕ → ℕ) → List Row → ℕ
children_weight h T = over (λ k r. total h (children_of (says_row r))) 0 T

-- the place q lies in the table, and deeper than p
pub record IsBelow (T : List Row) (level : ℕ → ℕ) (p q : ℕ) : Type 0 where
  pub deeper : level p < level q
  pub within : q < length T

-- However places are weighed: all places weigh what the root and the children of all rows weigh. So each place but the
-- first is that of one child. Each place has a level, and the children of a row lie deeper than it
pub record IsWhole (T : List Row) : Type 0 where
  pub root : 0 < length T
  pub account : (h : ℕ → ℕ) → places_weight h T ≡ h 0 + children_weight h T
  pub level : ℕ → ℕ
  pub inside : (p : ℕ) → p < length T → Each (IsBelow T level p) (children_of (says_at T p))

-- The places are passed in preorder, where those of the first list wait: the first of these, then its children before the
-- others
abbrev pub Walks : List Row → List ℕ → List ℕ → Type 0
Walks T waiting [] = waiting ≡ []
Walks T [] (p ∷ order) = ⊥
Walks T (next ∷ waiting) (p ∷ order) = (p ≡ next) × Walks T (children_of (says_at T next) ++ waiting) order

-- all places, in preorder from the root
abbrev pub IsPreorder : List Row → List ℕ → Type 0
IsPreorder T order = Walks T (0 ∷ []) order
