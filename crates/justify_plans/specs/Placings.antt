-- A schedule, job by job.
use Rattle.std.specs.Prelude.{ℕ, ◌-◌, ◌==◌, List, filter, not, slice_set}
use Rattle.rcpsp_model.specs.declared.parts.Entry.{Entry}
use Rattle.rcpsp_model.specs.declared.parts.Placing.{Placing}
use Rattle.rcpsp_model.specs.Project.{Project}
use Rattle.rcpsp_model.specs.Schedule.{finish, entries}
use Rattle.project_net.specs.Feasible.{placing_in, entry_in}

-- the mode, the start and the finish of a job
abbrev pub mode_in : List Placing → ℕ → ℕ
mode_in s j = (placing_in s j).mode

abbrev pub start_in : List Placing → ℕ → ℕ
start_in s j = (placing_in s j).start

abbrev pub finish_in : Project → List Placing → ℕ → ℕ
finish_in P s j = finish P (entry_in s j)

-- the entries of the other jobs, where they now are
abbrev pub others : List Placing → ℕ → List Entry
others s j = filter (λ e. not (e.job == j)) (entries s)

-- the schedule in which the job starts at t, and all else is as it was
abbrev pub moved : List Placing → ℕ → ℕ → List Placing
moved s j t = slice_set s (j - 1) (record { mode = mode_in s j; start = t })
