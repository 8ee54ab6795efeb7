-- What becomes of the record of an expanded node.
use Rattle.std.specs.Prelude.{◌≡◌, ℕ, Bool, true, false, Some, List, [], ◌∷◌, ◌++◌}
use Rattle.once_cell.specs.declared.race.note.Note.{Note}
use Rattle.rcpsp_model.specs.declared.parts.Entry.{Entry}
use Rattle.rcpsp_model.specs.Project.{Project}
use Rattle.precedence_tree.specs.declared.base.Base.{Base}
use Rattle.precedence_tree.specs.Base.{IsBaseOf}
use Rattle.sched_base.specs.Outside.{Rose}
use Rattle.search_table.specs.declared.view.PassView.{PassView}
use Rattle.search_table.specs.Views.{with_publication}
use Rattle.shared_rows.specs.Rows.{RowsState, IsNoteOf}
use Rattle.tree_worker.specs.Worker.{WorkerState}

-- the record stands in the next cell of the pass's row and is published, and a note of it is kept
pub record IsPublished (rows : RowsState) (base : Base) (v w : PassView) (notes now : List (Note Base)) : Type 0 where
  pub view : w ≡ with_publication v
  pub note : Note Base
  pub kept : now ≡ notes ++ note ∷ []
  pub cell : IsNoteOf rows v.number v.own note
  pub known : note.known ≡ Some base

-- nothing is published
pub record IsUnpublished (v w : PassView) (notes now : List (Note Base)) : Type 0 where
  pub view : w ≡ v
  pub kept : now ≡ notes

-- The record is published, or the worker is stopped: it was, or a set was refused
pub record Publishes (rows : RowsState) (base : Base) (stopped still : Bool) (refused refused_now : ℕ) (v w : PassView) (notes now : List (Note Base)) : Type 0 where
  pub going : still ≡ false → IsPublished rows base v w notes now
  pub ended : still ≡ true → IsUnpublished v w notes now
  pub stays : stopped ≡ true → still ≡ true
  pub cause : stopped ≡ false → still ≡ true → Rose refused refused_now

-- this record of the front F is kept, and then published
pub record Expands (P : Project) (rows : RowsState) (F : List Entry) (base : Base) (refused refused_now : ℕ) (v w : PassView) (old new : WorkerState) : Type 0 where
  pub front : base.front ≡ F
  pub is : IsBaseOf P base
  pub kept : new.expanded ≡ old.expanded ++ base ∷ []
  pub publishes : Publishes rows base old.stopped new.stopped refused refused_now v w old.notes new.notes
  pub worker : new ≡ record old { expanded = new.expanded; notes = new.notes; stopped = new.stopped }
