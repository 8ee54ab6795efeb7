-- The numbers that the rows of a calendar are.
use Rattle.std.proofs.Common.{◌≡◌, ℕ, zero, suc, ◌≤◌, inl, inr, eqb, cond, List, [], ◌∷◌, ◌++◌, length, Bool, refl, sym, ap, subst, ◌∙◌, arith}
use Rattle.std.specs.List.{AllByRecursion}
use Rattle.std.proofs.lemmas.Bool.{cases_eq, eq-eqb, ne_eqb}
use Rattle.rcpsp_model.specs.declared.parts.CalRow.{CalRow}
use Rattle.rcpsp_model.specs.Project.{MayPrecede, IsInOrder, IsRowWithinLimits}
use Rattle.psplib_layout.specs.Wanted.{Stands}
use Rattle.psplib_layout.specs.Calendar.{cal_row_numbers, cal_rows_numbers, calendar_numbers, AreCalRows, free_from, cal_row, cal_rows, no_row, whole_calendar}
use Rattle.psplib_layout.proofs.Stand.{given, Stands-cons_parts, Stands-cons}

-- ---- one row behind another

-- a row that is of no lower resource, and that begins where the row before leaves its resource free
behind_row : (before row : CalRow) → before.resource ≤ row.resource → free_from before row.resource ≤ row.begin → MayPrecede before row
behind_row before row low free = elim (cases_eq before.resource row.resource) [
  | inl same ↦ let later : before.until ≤ row.begin = rw (eq-eqb before.resource row.resource same) at free in inr (same, later)
  | inr apart ↦ inl (omega arith)
]

resource_behind : (before row : CalRow) → MayPrecede before row → before.resource ≤ row.resource
resource_behind before row (inl low) = omega arith
resource_behind before row (inr same) = let e = same.0 in omega arith

free_behind : (before row : CalRow) → MayPrecede before row → free_from before row.resource ≤ row.begin
free_behind before row (inl low) = rw (ne_eqb before.resource row.resource (λ e. omega arith)) (omega arith)
free_behind before row (inr same) = rw (eq-eqb before.resource row.resource same.0) same.1

record RowFound (capacities : List ℕ) (before : CalRow) (numbers : List ℕ) (row : CalRow) : Type 0 where
  same : numbers ≡ cal_row_numbers row
  limits : IsRowWithinLimits capacities row
  behind : MayPrecede before row

row_found : (capacities : List ℕ) (before : CalRow) (numbers : List ℕ) (row : CalRow) → 1 ≤ before.resource → Stands (cal_row capacities before) numbers row → RowFound capacities before numbers row
unfolding cal_row
row_found capacities before [] row some h = absurd h
row_found capacities before (k ∷ []) row some h = absurd h.1
row_found capacities before (k ∷ b ∷ []) row some h = absurd h.1.1
row_found capacities before (k ∷ b ∷ u ∷ []) row some h = absurd h.1.1.1
row_found capacities before (k ∷ b ∷ u ∷ c ∷ ns) row some h =
    let read : CalRow = record { resource = k; begin = b; until = u; capacity = c } in
    let g = given read ns row h.1.1.1.1 in
    let resource = h.0 in
    let begin = h.1.0 in
    let until = h.1.1.0 in
    let limits : IsRowWithinLimits capacities read = record {
      some_resource = omega arith;
      few_resources = resource.1;
      some_period = omega arith;
      until = until.1;
      capacity = h.1.1.1.0.1;
    } in
    subst (RowFound capacities before (k ∷ b ∷ u ∷ c ∷ ns)) g.1 (record {
      same = ap (λ (ms : List ℕ). k ∷ b ∷ u ∷ c ∷ ms) g.0;
      limits = limits;
      behind = behind_row before read resource.0 begin.0;
    })

row_again : (capacities : List ℕ) (before row : CalRow) → MayPrecede before row → IsRowWithinLimits capacities row → Stands (cal_row capacities before) (cal_row_numbers row) row
unfolding cal_row
row_again capacities before row behind h =
    let some = h.some_period in
    let few = h.until in
    ((resource_behind before row behind, h.few_resources), ((free_behind before row behind, omega arith), ((omega arith, few), ((omega arith, h.capacity), refl))))

-- ---- rows behind a row

pub record RowsFound (left : ℕ) (capacities : List ℕ) (before : CalRow) (numbers : List ℕ) (rows : List CalRow) : Type 0 where
  pub same : numbers ≡ cal_rows_numbers rows
  pub count : length rows ≡ left
  pub each : AllByRecursion (IsRowWithinLimits capacities) rows
  pub in_order : IsInOrder (before ∷ rows)

rows_found : (left : ℕ) (capacities : List ℕ) (before : CalRow) (numbers : List ℕ) (rows : List CalRow) → 1 ≤ before.resource → Stands (cal_rows left capacities before) numbers rows → RowsFound left capacities before numbers rows
unfolding cal_rows
rows_found zero capacities before numbers rows some h =
    let g = given [] numbers rows h in
    subst (RowsFound 0 capacities before numbers) g.1 (record { same = g.0; count = refl; each = tt; in_order = tt })
rows_found (suc left) capacities before numbers rows some h =
    let b = Stands-cons_parts (cal_row capacities before) (λ row. cal_rows left capacities row) numbers rows h in
    let one = row_found capacities before b.front b.value some b.first in
    let others = rows_found left capacities b.value b.back b.values one.limits.some_resource b.second in
    let whole : numbers ≡ cal_rows_numbers (b.value ∷ b.values) = b.numbers_are ∙ ap (λ (xs : List ℕ). xs ++ b.back) one.same ∙ ap (λ (ys : List ℕ). cal_row_numbers b.value ++ ys) others.same in
    subst (RowsFound (suc left) capacities before numbers) b.whole (record { same = whole; count = ap suc others.count; each = (one.limits, others.each); in_order = (one.behind, others.in_order) })

rows_again : (left : ℕ) (capacities : List ℕ) (before : CalRow) (rows : List CalRow) → length rows ≡ left → AllByRecursion (IsRowWithinLimits capacities) rows → IsInOrder (before ∷ rows) → Stands (cal_rows left capacities before) (cal_rows_numbers rows) rows
unfolding cal_rows
rows_again zero capacities before [] c e o = refl
rows_again zero capacities before (row ∷ rows) c e o = absurd cc
rows_again (suc left) capacities before [] c e o = absurd cc
rows_again (suc left) capacities before (row ∷ rows) c e o =
    let count : length rows ≡ left = omega arith in
    Stands-cons (cal_row capacities before) (λ r. cal_rows left capacities r) (cal_row_numbers row) (cal_rows_numbers rows) row rows
    (row_again capacities before row o.0 e.0) (rows_again left capacities row rows count e.1 o.1)

-- ---- the whole calendar

later_order : (before : CalRow) (rows : List CalRow) → IsInOrder (before ∷ rows) → IsInOrder rows
later_order before [] o = tt
later_order before (row ∷ rows) o = o.1

first_order : (capacities : List ℕ) (rows : List CalRow) → AllByRecursion (IsRowWithinLimits capacities) rows → IsInOrder rows → IsInOrder (no_row ∷ rows)
first_order capacities [] e o = tt
first_order capacities (row ∷ rows) e o = (behind_row no_row row e.0.some_resource (free row.begin (eqb 1 row.resource)), o)
  where
    free : (n : ℕ) (same : Bool) → cond same 0 0 ≤ n
    free n same = elim same as (λ b. cond b 0 0 ≤ n) [ Bool.true ↦ omega arith | Bool.false ↦ omega arith ]

pub record CalendarFound (capacities numbers : List ℕ) (rows : List CalRow) : Type 0 where
  pub same : numbers ≡ calendar_numbers rows
  pub limits : AreCalRows capacities rows

pub calendar_found : (capacities numbers : List ℕ) (rows : List CalRow) → Stands (whole_calendar capacities) numbers rows → CalendarFound capacities numbers rows
unfolding whole_calendar
calendar_found capacities [] rows h = absurd h
calendar_found capacities (k ∷ ns) rows h =
    let f = rows_found k capacities no_row ns rows (omega arith) h.1 in
    let few = h.0.1 in
    let count = f.count in
    record {
      same = ap (λ (n : ℕ). n ∷ ns) (sym count) ∙ ap (λ (ms : List ℕ). length rows ∷ ms) f.same;
      limits = record { few_rows = omega arith; each = f.each; in_order = later_order no_row rows f.in_order };
    }

pub calendar_again : (capacities : List ℕ) (rows : List CalRow) → AreCalRows capacities rows → Stands (whole_calendar capacities) (calendar_numbers rows) rows
unfolding whole_calendar
calendar_again capacities rows h = ((omega arith, h.few_rows), rows_again (length rows) capacities no_row rows refl h.each (first_order capacities rows h.each h.in_order))

-- ---- one row that was read

-- a row that stands for its words ends by period 10,000, and is of some resource
pub record IsRead (row : CalRow) : Type 0 where
  pub resource : 1 ≤ row.resource
  pub until : row.until ≤ 10000

pub row_read : (capacities : List ℕ) (before : CalRow) (numbers : List ℕ) (row : CalRow) → 1 ≤ before.resource → Stands (cal_row capacities before) numbers row → IsRead row
row_read capacities before numbers row some h = let f = row_found capacities before numbers row some h in record { resource = f.limits.some_resource; until = f.limits.until }
