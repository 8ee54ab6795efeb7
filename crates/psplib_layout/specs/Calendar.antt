-- The calendar part: rows that each name a renewable resource, some periods, and what there is of it in these.
use Rattle.std.specs.Prelude.{ℕ, zero, suc, ◌+◌, ◌-◌, ◌≤◌, ◌==◌, List, [], ◌∷◌, ◌++◌, length, slice_index, if◌then◌else◌}
use Rattle.std.specs.List.{AllByRecursion}
use Rattle.rcpsp_model.specs.declared.parts.CalRow.{CalRow}
use Rattle.rcpsp_model.specs.Project.{IsRowWithinLimits, IsInOrder}
use Rattle.psplib_layout.specs.Rule.{up_to, ordered}
use Rattle.psplib_layout.specs.Wanted.{Wanted, give, ◌>>=◌, one}

-- ---- what the part is

-- the numbers of a row
abbrev pub cal_row_numbers : CalRow → List ℕ
cal_row_numbers row = row.resource ∷ row.begin ∷ row.until ∷ row.capacity ∷ []

-- the numbers of these rows
abbrev pub cal_rows_numbers : List CalRow → List ℕ
cal_rows_numbers [] = []
cal_rows_numbers (row ∷ rows) = cal_row_numbers row ++ cal_rows_numbers rows

-- the number of rows, and the numbers of each
abbrev pub calendar_numbers : List CalRow → List ℕ
calendar_numbers rows = length rows ∷ cal_rows_numbers rows

-- at most 256 rows, within the limits of these capacities and in order
pub record AreCalRows (capacities : List ℕ) (rows : List CalRow) : Type 0 where
  pub few_rows : length rows ≤ 256
  pub each : AllByRecursion (IsRowWithinLimits capacities) rows
  pub in_order : IsInOrder rows

-- ---- which numbers are wanted, in their order, and the faults of others

-- the first period at which a row of this resource may begin behind another row
abbrev pub free_from : CalRow → ℕ → ℕ
free_from before resource = if before.resource == resource then before.until else 0

-- a resource no lower than that of the row before; a first period no earlier than that row's end, where it is of the same
-- resource; an end above the first period; and at most the resource's capacity
unfoldable pub cal_row : List ℕ → CalRow → Wanted CalRow
cal_row capacities before = do
  resource ← one (ordered 1 before.resource (length capacities))
  begin ← one (ordered 0 (free_from before resource) 9999)
  until ← one (ordered 0 (begin + 1) 10000)
  capacity ← one (up_to (slice_index capacities (resource - 1)))
  give (record { resource = resource; begin = begin; until = until; capacity = capacity })

-- so many rows, the first of which stands behind this one
unfoldable pub cal_rows : ℕ → List ℕ → CalRow → Wanted (List CalRow)
cal_rows zero capacities before = give []
cal_rows (suc left) capacities before = do
  row ← cal_row capacities before
  rows ← cal_rows left capacities row
  give (row ∷ rows)

-- a row behind which each other may stand: the first resource's, and over when period 0 begins
abbrev pub no_row : CalRow
no_row = record { resource = 1; begin = 0; until = 0; capacity = 0 }

-- the number of rows, and so many rows
unfoldable pub whole_calendar : List ℕ → Wanted (List CalRow)
whole_calendar capacities = do
  count ← one (up_to 256)
  cal_rows count capacities no_row
