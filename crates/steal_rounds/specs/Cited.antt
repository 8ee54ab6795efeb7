-- Live citations, once all workers have ended.
use Rattle.std.specs.Prelude.{◌≡◌, ℕ, ◌+◌, ◌-◌, ◌<◌, ◌≤◌, Some, List, [], ◌∷◌, length, All, Contains, slice_get, slice_set, slice_index_or}
use Rattle.std.specs.List.{AllZip}
use Rattle.once_cell.specs.declared.race.note.Note.{Note}
use Rattle.precedence_tree.specs.declared.base.Base.{Base}
use Rattle.search_log.specs.declared.row.RowFate.TheVariants.{Open, Cited}
use Rattle.search_log.specs.declared.row.Fill.{Fill}
use Rattle.search_log.specs.Told.{no_origin}
use Rattle.search_rounds.specs.declared.round.PlacedRecord.{PlacedRecord}
use Rattle.shared_rows.specs.Rows.{RowsState, IsNoteOf}
use Rattle.tree_worker.specs.declared.live.LiveNote.{LiveNote}
use Rattle.steal_rounds.specs.declared.gathering.Shown.{Shown}
use Rattle.steal_rounds.specs.declared.gathering.Published.{Published}

-- the note is of the worker's cell at the place, and knows the front of a record that was made, the one of this number
pub record IsShown (rows : RowsState) (made : List PlacedRecord) (worker place number : ℕ) (note : Note Base) : Type 0 where
  pub cell : IsNoteOf rows worker place note
  pub made_record : PlacedRecord
  pub is_at : slice_get made number ≡ Some made_record
  pub base : Base
  pub known : note.known ≡ Some base
  pub front : made_record.known.front ≡ base.front

-- each note of what a worker published is of its cell, and knows the front of the worker's record of that number
pub record IsPublished (rows : RowsState) (made : List PlacedRecord) (worker : ℕ) (p : Published) : Type 0 where
  pub each : (place : ℕ) (s : Shown) → slice_get p.shown.items place ≡ Some s → IsShown rows made worker place (p.first + place) s.note

abbrev pub ArePublished : RowsState → List PlacedRecord → List Published → Type 0
ArePublished rows made published = (worker : ℕ) (p : Published) → slice_get published worker ≡ Some p → IsPublished rows made (worker + 1) p

-- the same records, in the same order
pub record IsSamePublished (p q : Published) : Type 0 where
  pub first : q.first ≡ p.first
  pub shown : q.shown.items ≡ p.shown.items

abbrev pub AreSamePublished : List Published → List Published → Type 0
AreSamePublished ps qs = AllZip IsSamePublished ps qs

-- the note is of a cell in which one of these workers published, and knows what the cell has
pub record IsToBeCited (rows : RowsState) (published : List Published) (live : LiveNote) : Type 0 where
  pub some : 1 ≤ live.worker
  pub by : Published
  pub worker : slice_get published (live.worker - 1) ≡ Some by
  pub within : live.place < length by.shown.items
  pub cell : IsNoteOf rows live.worker live.place live.note
  pub base : Base
  pub known : live.note.known ≡ Some base

abbrev pub AreToBeCited : RowsState → List Published → List LiveNote → Type 0
AreToBeCited rows published cited = All (IsToBeCited rows published) cited

-- these are numbers, from 0, of so many fills
abbrev pub AreFills : ℕ → List ℕ → Type 0
AreFills count numbers = All (λ i. i < count) numbers

-- the place is that of a record with the front that the note knows
pub record IsRowOf (made : List PlacedRecord) (place : ℕ) (live : LiveNote) : Type 0 where
  pub made_record : PlacedRecord
  pub among : Contains made made_record
  pub is_at : made_record.place ≡ place
  pub front : (base : Base) → live.note.known ≡ Some base → made_record.known.front ≡ base.front

abbrev no_fill : Fill
no_fill = record { place = 0; fate = Open; origin = no_origin }

-- the fill of this number cites the row at the place
abbrev pub with_cited : List Fill → ℕ → ℕ → List Fill
with_cited fills i q = slice_set fills i (record (slice_index_or fills i no_fill) { fate = Cited q })

-- the fills of these numbers cite the rows at these places, one after another
abbrev pub cited_rows : List Fill → List ℕ → List ℕ → List Fill
cited_rows fills [] places = fills
cited_rows fills (i ∷ numbers) [] = fills
cited_rows fills (i ∷ numbers) (q ∷ places) = cited_rows (with_cited fills i q) numbers places

-- the fills of these numbers cite the rows of these live records
pub record CitesThem (made : List PlacedRecord) (cited : List LiveNote) (numbers : List ℕ) (before after : List Fill) : Type 0 where
  pub places : List ℕ
  pub rows : AllZip (IsRowOf made) places cited
  pub fills : after ≡ cited_rows before numbers places
