-- What a read of a row tells.
use Rattle.std.specs.Prelude.{◌≡◌, ℕ, ◌<◌, ◌≤◌, Some}
use Rattle.once_cell.specs.declared.race.note.Note.{Note}
use Rattle.sched_base.specs.Outside.{Rose}
use Rattle.shared_rows.specs.declared.rows.Look.{Look}
use Rattle.shared_rows.specs.declared.rows.Look.TheVariants.{Found, Beyond, Unset}
use Rattle.shared_rows.specs.Rows.{RowsState, IsNoteOf}

-- the place is published, and the note is of its cell and knows the value
pub record IsFound {T : Type 0} (rows : RowsState) (worker place count : ℕ) (value : T) (note : Note T) : Type 0 where
  pub published : place < count
  pub cell : IsNoteOf rows worker place note
  pub known : note.known ≡ Some value

-- the place isn't published, and the count is told
pub record IsBeyond (place count told : ℕ) : Type 0 where
  pub unpublished : count ≤ place
  pub number : told ≡ count

-- the place is published, and the count of empty reads rose
pub record IsUnset (place count before after : ℕ) : Type 0 where
  pub published : place < count
  pub cause : Rose before after

-- with this count of the worker, and these counts of empty reads before and after
abbrev pub Looked : {T : Type 0} → RowsState → ℕ → ℕ → ℕ → ℕ → ℕ → Look T → Type 0
Looked rows worker place count before after (Found value note) = IsFound rows worker place count value.now note
Looked rows worker place count before after (Beyond told) = IsBeyond place count told
Looked rows worker place count before after Unset = IsUnset place count before after
