-- Records that other workers published, as a worker has read them.
use Rattle.std.specs.Prelude.{◌≡◌, ◌≢◌, ℕ, ◌<◌, ◌≤◌, Some, IsSome, IfSome, List, [], ◌∷◌, ◌++◌, All}
use Rattle.once_cell.specs.declared.race.note.Note.{Note}
use Rattle.rcpsp_model.specs.declared.parts.Entry.{Entry}
use Rattle.rcpsp_model.specs.Project.{Project}
use Rattle.rcpsp_model.specs.Dominance.{Dominates}
use Rattle.precedence_tree.specs.declared.base.Base.{Base}
use Rattle.precedence_tree.specs.Base.{IsBaseOf}
use Rattle.search_table.specs.declared.view.PassView.{PassView}
use Rattle.search_table.specs.Counts.{seen_of}
use Rattle.shared_rows.specs.Rows.{RowsState, IsNoteOf}
use Rattle.tree_worker.specs.declared.answer.Cite.{Cite}
use Rattle.tree_worker.specs.declared.answer.Cite.TheVariants.{Live}
use Rattle.tree_worker.specs.declared.live.Judgement.TheVariants.{Sound}
use Rattle.tree_worker.specs.declared.live.LiveNote.{LiveNote}
use Rattle.tree_worker.specs.declared.live.LiveRecord.{LiveRecord}

-- the note is of the cell in this place of a worker's row, not of the row of the worker with the given number, and knows what
-- the cell has
pub record IsOfOther (rows : RowsState) (number worker place : ℕ) (note : Note Base) : Type 0 where
  pub other : worker ≢ number
  pub low : 1 ≤ worker
  pub high : worker ≤ rows.workers
  pub within : place < rows.cells
  pub cell : IsNoteOf rows worker place note
  pub known : IsSome note.known

-- a record of another worker, and where it was found sound, it is one of a front of the project
pub record IsLiveRecord (P : Project) (rows : RowsState) (number : ℕ) (live : LiveRecord) : Type 0 where
  pub of_other : IsOfOther rows number live.worker live.place live.note
  pub sound : live.judgement ≡ Sound → IfSome live.note.known (IsBaseOf P)

-- the note of a live citation: its place is published, as far as the pass has seen
pub record IsLiveNote (rows : RowsState) (v : PassView) (live : LiveNote) : Type 0 where
  pub of_other : IsOfOther rows v.number live.worker live.place live.note
  pub published : live.place < seen_of live.worker v

-- and the record that it knows has a front that dominates F
pub record IsCited (P : Project) (rows : RowsState) (v : PassView) (F : List Entry) (live : LiveNote) : Type 0 where
  pub is : IsLiveNote rows v live
  pub base : Base
  pub known : live.note.known ≡ Some base
  pub dominates : Dominates P base.front F

-- the pass has loaded published counts, and has done nothing else
pub record Listens (before after : PassView) : Type 0 where
  pub view : after ≡ record before { seen_counts = after.seen_counts }
  pub later : (worker : ℕ) → seen_of worker before ≤ seen_of worker after

-- whatever the project, the records are still live records of others
abbrev pub StayLive : RowsState → ℕ → List LiveRecord → List LiveRecord → Type 0
StayLive rows number old new = (P : Project) → All (IsLiveRecord P rows number) old → All (IsLiveRecord P rows number) new

-- the list of live notes has one more, of this worker and place
pub record CitesLive (P : Project) (rows : RowsState) (v : PassView) (F : List Entry) (live now : List LiveNote) (worker place : ℕ) : Type 0 where
  pub cited : LiveNote
  pub kept : now ≡ live ++ cited ∷ []
  pub of_worker : cited.worker ≡ worker
  pub at_place : cited.place ≡ place
  pub is : IsCited P rows v F cited

abbrev pub CitesOther : Project → RowsState → PassView → List Entry → List LiveNote → List LiveNote → Cite → Type 0
CitesOther P rows v F live now (Live worker place) = CitesLive P rows v F live now worker place
CitesOther P rows v F live now _ = ⊥
