-- What an index keeps of the records of one set of jobs, so that a node is compared with them without a look at a record.
use Rattle.std.specs.Prelude.{◌≡◌, ℕ, ◌<◌, List, [], ◌∷◌, ◌++◌, length, take, drop, slice_index, slice_index_or}
use Rattle.sched_base.specs.declared.job_set.JobSet.{JobSet}
use Rattle.rcpsp_model.specs.Tree.{last_start}
use Rattle.precedence_tree.specs.declared.active.Active.{Active}
use Rattle.precedence_tree.specs.declared.base.Base.{Base}
use Rattle.cutset_store.specs.declared.row.Row.{Row}

-- the jobs, a row for each record that has them, and row after row the needs and the active jobs
pub record LineState : Type 0 where
  pub jobs : JobSet
  pub rows : List Row
  pub needs : List ℕ
  pub active : List Active

abbrev pub empty_line : JobSet → LineState
empty_line set = record { jobs = set; rows = []; needs = []; active = [] }

-- a row of the front b, beside it what its jobs need of the first nonrenewable resources, and its first 128 active jobs,
-- which are all where the front is one of a project
pub record IsRowOf (b : Base) (row : Row) (used : List ℕ) (xs : List Active) : Type 0 where
  pub last : row.last ≡ last_start b.front
  pub end : row.end ≡ b.end
  pub needs : (i : ℕ) → i < length used → slice_index used i ≡ slice_index b.needs.used i
  pub active : xs ≡ take 128 b.active

-- the same of the record in the row's place, with as many needs as the width, and as many active jobs as the row says
pub record IsRowAt (bases : List Base) (width : ℕ) (row : Row) (used : List ℕ) (xs : List Active) : Type 0 where
  pub within : row.place < length bases
  pub wide : length used ≡ width
  pub count : row.active ≡ length xs
  pub row_of : (d : Base) → IsRowOf (slice_index_or bases row.place d) row used xs

-- rows one behind another, each with its part of the needs and of the active jobs
abbrev pub AreInLine : List Base → ℕ → List Row → List ℕ → List Active → Type 0
AreInLine bases width [] used xs = (used ≡ []) × (xs ≡ [])
AreInLine bases width (row ∷ rows) used xs =
    IsRowAt bases width row (take width used) (take row.active xs) × AreInLine bases width rows (drop width used) (drop row.active xs)

-- the new line has one row more, with what stands beside it
pub record Appends (old new : LineState) (row : Row) (used : List ℕ) (xs : List Active) : Type 0 where
  pub jobs : new.jobs ≡ old.jobs
  pub rows : new.rows ≡ old.rows ++ row ∷ []
  pub needs : new.needs ≡ old.needs ++ used
  pub active : new.active ≡ old.active ++ xs
