-- What contracts see of a worker, and what it keeps from visit to visit.
use Rattle.std.specs.Prelude.{◌≡◌, ℕ, ◌≤◌, Bool, false, Option, Some, None, List, [], ◌∷◌, length, slice_get, All}
use Rattle.once_cell.specs.declared.race.note.Note.{Note}
use Rattle.rcpsp_model.specs.declared.parts.Placing.{Placing}
use Rattle.rcpsp_model.specs.Project.{Project}
use Rattle.rcpsp_model.specs.Claim.{EndsAt}
use Rattle.precedence_tree.specs.declared.base.Base.{Base}
use Rattle.precedence_tree.specs.Base.{IsBaseOf}
use Rattle.search_table.specs.declared.view.PassView.{PassView}
use Rattle.search_table.specs.Lists.{least}
use Rattle.shared_rows.specs.Rows.{RowsState, IsNoteOf}
use Rattle.tree_worker.specs.declared.live.LiveNote.{LiveNote}
use Rattle.tree_worker.specs.declared.live.LiveRecord.{LiveRecord}
use Rattle.tree_worker.specs.Live.{IsLiveRecord, IsLiveNote}

-- a worker: its number; the records of the nodes that it expanded; the schedule of the least end that it offered, if it
-- offered one; its notes of what it published and of what it cited live; whether it publishes no more; and what it has read of
-- others. Each list is in order
pub record WorkerState : Type 0 where
  pub number : ℕ
  pub expanded : List Base
  pub plan : Option (List Placing)
  pub notes : List (Note Base)
  pub live : List LiveNote
  pub stopped : Bool
  pub heard : List LiveRecord

-- it has done nothing
abbrev pub new_worker : ℕ → WorkerState
new_worker number = record { number = number; expanded = []; plan = None; notes = []; live = []; stopped = false; heard = [] }

-- how far a worker has come: what it holds, and what its pass has seen and done
pub record Progress : Type 0 where
  pub worker : WorkerState
  pub pass : PassView

-- the schedule is feasible and ends at the least of these ends; there is none where there is no end
abbrev pub HasPlan : Project → List ℕ → Option (List Placing) → Type 0
HasPlan P [] None = Unit {0}
HasPlan P [] (Some s) = ⊥
HasPlan P (end ∷ ends) None = ⊥
HasPlan P (end ∷ ends) (Some s) = EndsAt P (least end ends) s

-- a note of the worker's cell in the place i, which knows record number i of these, both from 0
pub record IsOwnNote (rows : RowsState) (worker : ℕ) (records : List Base) (i : ℕ) (note : Note Base) : Type 0 where
  pub cell : IsNoteOf rows worker i note
  pub known : note.known ≡ slice_get records i

abbrev pub AreOwnNotes : RowsState → ℕ → List Base → List (Note Base) → Type 0
AreOwnNotes rows worker records notes = (i : ℕ) (note : Note Base) → slice_get notes i ≡ Some note → IsOwnNote rows worker records i note

-- The worker is at work on the project with this pass and these rows. It expanded no more than its pass won tickets; what it
-- published are the first of the records of what it expanded, and all of them unless it is stopped
pub record IsAtWork (P : Project) (rows : RowsState) (at : Progress) : Type 0 where
  pub number : at.pass.number ≡ at.worker.number
  pub some : 1 ≤ at.pass.number
  pub workers : at.pass.terms.workers ≡ rows.workers
  pub room : at.pass.terms.quota ≤ rows.cells
  pub expanded : All (IsBaseOf P) at.worker.expanded
  pub tickets : length at.worker.expanded ≤ at.pass.won
  pub published : at.pass.own ≡ length at.worker.notes
  pub within : length at.worker.notes ≤ length at.worker.expanded
  pub going : at.worker.stopped ≡ false → length at.worker.notes ≡ length at.worker.expanded
  pub notes : AreOwnNotes rows at.pass.number at.worker.expanded at.worker.notes
  pub live : All (IsLiveNote rows at.pass) at.worker.live
  pub plan : HasPlan P at.pass.offers at.worker.plan
  pub heard : All (IsLiveRecord P rows at.pass.number) at.worker.heard

-- the pass is of a round of which these are the rows, with a cell for each ticket, and the worker is one of it
pub record IsReadyFor (rows : RowsState) (worker : ℕ) (v : PassView) : Type 0 where
  pub some : 1 ≤ worker
  pub workers : v.terms.workers ≡ rows.workers
  pub room : v.terms.quota ≤ rows.cells
