-- The rows of cells of a round, and the notes of their cells.
use Rattle.std.specs.Prelude.{◌≡◌, ℕ, ◌-◌, ◌≤◌, List, [], length, map, slice_index, slice_index_or, All}
use Rattle.std.specs.declared.vec.Vec.{Vec}
use Rattle.std.specs.declared.alloc.Global.{Global}
use Rattle.once_cell.specs.declared.race.note.Note.{Note}
use Rattle.once_cell.specs.Once.{cell_name}

-- how many workers have a row, how many cells each row has, and the names of the cells, row by row
pub record RowsState : Type 0 where
  pub workers : ℕ
  pub cells : ℕ
  pub names : List (List ℕ)

-- the name of the cell of a worker, from 1, at a place of its row, from 0
abbrev pub cell_at : RowsState → ℕ → ℕ → ℕ
cell_at rows worker place = slice_index (slice_index_or rows.names (worker - 1) []) place

-- the note is of the cell of the worker at the place
abbrev pub IsNoteOf : {T : Type 0} → RowsState → ℕ → ℕ → Note T → Type 0
IsNoteOf rows worker place note = note.cell ≡ cell_at rows worker place

-- the names of the cells that are kept
abbrev pub names_in : List (Vec (Global × ℕ) Global) → List (List ℕ)
names_in rows = map (λ row. map cell_name row.items) rows

-- so many rows are kept, and so many cells in each, which is a number of 32 bits
pub record AreCells (workers cells : ℕ) (rows : List (Vec (Global × ℕ) Global)) : Type 0 where
  pub rows_kept : length rows ≡ workers
  pub cells_kept : All (λ row. length row.items ≡ cells) rows
  pub few : cells ≤ 4294967295
