-- Drafts of projects: the project that a draft describes, and the faults that it may have.
use Rattle.std.specs.Prelude.{ℕ, ◌≤◌, [], length, map, filter, sum_by, All}
use Rattle.std.specs.List.{range_with_len}
use Rattle.rcpsp_model.specs.Project.{Project, Activity, IsModeWithinLimits, IsRowWithinLimits, IsInOrder}
use Rattle.rcpsp_model.specs.Rank.{is_among}
use Rattle.project_net.specs.declared.draft.Draft.{Draft}
use Rattle.project_net.specs.declared.draft.DraftJob.{DraftJob}

-- what stands past the last job
abbrev pub no_job : DraftJob
no_job = record { modes = []; successors = [] }

-- a job among n: its modes, and in ascending order the jobs that it names as successors
abbrev pub activity_of : ℕ → DraftJob → Activity
activity_of n job = record { modes = job.modes; successors = filter (is_among job.successors) (range_with_len 1 n) }

-- the project that a draft describes
abbrev pub project_of : Draft → Project
project_of draft = record {
  activities = map (activity_of (length draft.jobs)) draft.jobs;
  capacities = draft.capacities;
  budgets = draft.budgets;
  calendar = draft.calendar;
}

-- 1 to 128 jobs, at most 512 modes in all and 16 resources of each kind, no capacity or budget above 1,000,000, and at most
-- 256 rows in the calendar, each within the limits and after those before it
pub record IsWithinCounts (draft : Draft) : Type 0 where
  pub some_job : 1 ≤ length draft.jobs
  pub few_jobs : length draft.jobs ≤ 128
  pub few_modes : sum_by (λ job. length job.modes) draft.jobs ≤ 512
  pub few_renewables : length draft.capacities ≤ 16
  pub few_nonrenewables : length draft.budgets ≤ 16
  pub capacities : All (λ c. c ≤ 1000000) draft.capacities
  pub budgets : All (λ b. b ≤ 1000000) draft.budgets
  pub few_rows : length draft.calendar ≤ 256
  pub rows : All (IsRowWithinLimits draft.capacities) draft.calendar
  pub calendar : IsInOrder draft.calendar

-- 1 to 16 modes, each within the limits
pub record IsJobWithinLimits (renewables nonrenewables : ℕ) (job : DraftJob) : Type 0 where
  pub some_mode : 1 ≤ length job.modes
  pub few_modes : length job.modes ≤ 16
  pub modes : All (IsModeWithinLimits renewables nonrenewables) job.modes

-- each successor is one of n jobs
abbrev pub HasSuccessorsWithin : ℕ → DraftJob → Type 0
HasSuccessorsWithin n job = All (λ s. (1 ≤ s) × (s ≤ n)) job.successors

-- a draft without a fault in its numbers
pub record IsWithinLimits (draft : Draft) : Type 0 where
  pub counts : IsWithinCounts draft
  pub jobs : All (IsJobWithinLimits (length draft.capacities) (length draft.budgets)) draft.jobs
  pub successors : All (HasSuccessorsWithin (length draft.jobs)) draft.jobs
