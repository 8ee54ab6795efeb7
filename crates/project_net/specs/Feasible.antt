-- What shows whether a schedule is feasible: its jobs one by one, and the usage where a job starts or a stretch begins.
use Rattle.std.specs.Prelude.{◌≡◌, ℕ, ◌-◌, ◌≤◌, ◌⊎◌, List, length, All}
use Rattle.std.specs.List.{slice_index_or}
use Rattle.rcpsp_model.specs.declared.parts.Entry.{Entry}
use Rattle.rcpsp_model.specs.declared.parts.Placing.{Placing}
use Rattle.rcpsp_model.specs.Project.{Project, Before, IsMode, job_count, request}
use Rattle.rcpsp_model.specs.Schedule.{cap, entries, finish, usage}
use Rattle.project_net.specs.declared.stretches.Stretch.{Stretch}
use Rattle.project_net.specs.Stretches.{begin_of, capacity_of}

-- a schedule that gives each job one of its modes and a start up to 999,999,999
pub record IsPlaced (P : Project) (s : List Placing) : Type 0 where
  pub whole : length s ≡ job_count P
  pub modes : All (λ e. IsMode P e.job e.mode) (entries s)
  pub starts : All (λ p. p.start ≤ 999999999) s

-- the placing of a job, and the job's entry
abbrev pub placing_in : List Placing → ℕ → Placing
placing_in s j = slice_index_or s (j - 1) (record { mode = 0; start = 0 })

abbrev pub entry_in : List Placing → ℕ → Entry
entry_in s j = record { job = j; mode = (placing_in s j).mode; start = (placing_in s j).start }

-- no successor of the job starts before the job's finish
abbrev pub EndsBeforeSuccessors : Project → List Placing → ℕ → Type 0
EndsBeforeSuccessors P s i = (j : ℕ) → Before P i j → finish P (entry_in s i) ≤ (entry_in s j).start

-- the usage of the resource where the job starts is at most what there is, or the job doesn't add to it
abbrev pub FitsAtStart : Project → List Placing → ℕ → ℕ → Type 0
FitsAtStart P s k j = (request P j (entry_in s j).mode k ≡ 0) ⊎ (usage P (entries s) k (entry_in s j).start ≤ cap P k (entry_in s j).start)

-- so is the usage where the stretch begins
abbrev pub FitsAtBegin : Project → List Placing → ℕ → List Stretch → ℕ → Type 0
FitsAtBegin P s k stretches i = usage P (entries s) k (begin_of stretches i) ≤ capacity_of stretches i

-- so is the usage in each period
abbrev pub KeepsCapacity : Project → List Entry → ℕ → Type 0
KeepsCapacity P es k = (t : ℕ) → usage P es k t ≤ cap P k t
