-- Windows: when each job may run, in a project that is to be over by some period.
use Rattle.std.specs.Prelude.{ℕ, ◌+◌, ◌-◌, ◌<◌, ◌≤◌, nat_le, ◌&&◌, Bool, List, slice_index, replicate, filter, sum_by, All}
use Rattle.std.specs.List.{slice_index_or}
use Rattle.rcpsp_model.specs.declared.parts.Placing.{Placing}
use Rattle.rcpsp_model.specs.Project.{Project, job_count, jobs, modes_of, IsJob}
use Rattle.rcpsp_model.specs.Schedule.{finish, entries}
use Rattle.rcpsp_model.specs.Chain.{least_over, least_duration}
use Rattle.rcpsp_model.specs.Modes.{least_work}
use Rattle.window_refuter.specs.declared.window.Window.{Window}

-- the window of each job, by job number, and the period by which all jobs are to be over
pub record TimeWindows : Type 0 where
  pub end : ℕ
  pub windows : List Window

abbrev pub no_window : Window
no_window = record { earliest_start = 0; latest_finish = 0 }

unfoldable pub window_of : List Window → ℕ → Window
window_of ws j = slice_index_or ws (j - 1) no_window

-- the earliest start and the latest finish of a job
abbrev pub es_of : List Window → ℕ → ℕ
es_of ws j = (window_of ws j).earliest_start

abbrev pub lf_of : List Window → ℕ → ℕ
lf_of ws j = (window_of ws j).latest_finish

-- at first each job has all periods before the end
unfoldable pub first_windows : Project → ℕ → List Window
first_windows P T = replicate (job_count P) (record { earliest_start = 0; latest_finish = T })

-- the periods in which the jobs of a schedule run are within their windows
abbrev pub KeepsWindows : Project → List Window → List Placing → Type 0
KeepsWindows P ws s = All (λ e. (es_of ws e.job ≤ e.start) × (finish P e ≤ lf_of ws e.job)) (entries s)

-- the first period by which a job can be over, and the last at which it has to start, in its shortest mode
abbrev pub earliest_finish : Project → List Window → ℕ → ℕ
earliest_finish P ws j = es_of ws j + least_duration P j

abbrev pub latest_start : Project → List Window → ℕ → ℕ
latest_start P ws j = lf_of ws j - least_duration P j

-- the window is shorter than the job
abbrev pub IsEmptyWindow : Project → List Window → ℕ → Type 0
IsEmptyWindow P ws j = lf_of ws j < earliest_finish P ws j

abbrev pub NoneIsEmpty : Project → List Window → Type 0
NoneIsEmpty P ws = (j : ℕ) → IsJob P j → earliest_finish P ws j ≤ lf_of ws j

-- the least that a job asks of a renewable resource in each of its periods, over all its modes
unfoldable pub least_request : Project → ℕ → ℕ → ℕ
unfolding modes_of
least_request P j k = least_over (λ m. slice_index m.requests (k - 1)) (modes_of P j)

-- whether a job has to run within the periods from a up to b
abbrev pub is_within : List Window → ℕ → ℕ → ℕ → Bool
is_within ws a b j = nat_le a (es_of ws j) && nat_le (lf_of ws j) b

-- the least work on a renewable resource of the jobs that have to run within the periods from a up to b
abbrev pub work_within : Project → List Window → ℕ → ℕ → ℕ → ℕ
work_within P ws k a b = sum_by (λ j. least_work P j k) (filter (is_within ws a b) (jobs P))

-- windows of which none begins after period 1,290,000 or reaches beyond the end
pub record AreWithin (T : ℕ) (ws : List Window) : Type 0 where
  pub starts : All (λ w. w.earliest_start ≤ 1290000) ws
  pub finishes : All (λ w. w.latest_finish ≤ T) ws

-- each job's window lies inside its other one
pub record LiesInside (P : Project) (inner outer : List Window) : Type 0 where
  pub starts : (j : ℕ) → IsJob P j → es_of outer j ≤ es_of inner j
  pub finishes : (j : ℕ) → IsJob P j → lf_of inner j ≤ lf_of outer j
