-- Projects: jobs with their modes and their order, and what there is of each resource (the MRCPSP of Talbot 1982, as in
-- the library PSPLIB of Kolisch and Sprecher 1997; the RCPSP is the case of one mode per job), with a calendar of periods
-- in which there is less. Jobs, modes and resources count from 1, periods from 0.
use Rattle.std.specs.Prelude.{◌≡◌, ℕ, zero, suc, ◌+◌, ◌-◌, ◌<◌, ◌≤◌, ◌⊎◌, ◌==◌, ◌&&◌, nat_le, Bool, true, List, [], ◌∷◌, length, slice_index, sum_by, All}
use Rattle.std.specs.List.{list_any, slice_index_or}
use Rattle.rcpsp_model.specs.declared.parts.CalRow.{CalRow}
use Rattle.rcpsp_model.specs.declared.parts.Mode.{Mode}

-- a job (activity): its modes, and its direct successors in strictly ascending order
pub record Activity : Type 0 where
  pub modes : List Mode
  pub successors : List ℕ

-- the jobs, the capacity of each renewable resource, the budget of each nonrenewable resource, and the calendar: rows that
-- each name a renewable resource, periods, and what there is of it in these
pub record Project : Type 0 where
  pub activities : List Activity
  pub capacities : List ℕ
  pub budgets : List ℕ
  pub calendar : List CalRow

abbrev pub no_mode : Mode
no_mode = record { duration = 0; requests = []; needs = [] }

abbrev pub no_activity : Activity
no_activity = record { modes = []; successors = [] }

unfoldable pub job_count : Project → ℕ
job_count P = length P.activities

abbrev pub renewables : Project → ℕ
renewables P = length P.capacities

abbrev pub nonrenewables : Project → ℕ
nonrenewables P = length P.budgets

unfoldable pub modes_of : Project → ℕ → List Mode
modes_of P j = (slice_index_or P.activities (j - 1) no_activity).modes

unfoldable pub successors_of : Project → ℕ → List ℕ
successors_of P j = (slice_index_or P.activities (j - 1) no_activity).successors

unfoldable pub mode_of : Project → ℕ → ℕ → Mode
unfolding modes_of
mode_of P j m = slice_index_or (modes_of P j) (m - 1) no_mode

-- the periods of a job in a mode
unfoldable pub duration : Project → ℕ → ℕ → ℕ
unfolding mode_of
duration P j m = (mode_of P j m).duration

-- what a job in a mode asks of a renewable resource in each of its periods
unfoldable pub request : Project → ℕ → ℕ → ℕ → ℕ
unfolding mode_of
request P j m k = slice_index (mode_of P j m).requests (k - 1)

-- what a job in a mode needs of a nonrenewable resource in all
unfoldable pub need : Project → ℕ → ℕ → ℕ → ℕ
unfolding mode_of
need P j m l = slice_index (mode_of P j m).needs (l - 1)

unfoldable pub capacity : Project → ℕ → ℕ
capacity P k = slice_index P.capacities (k - 1)

unfoldable pub budget : Project → ℕ → ℕ
budget P l = slice_index P.budgets (l - 1)

-- whether i is a job that has j among its direct successors
unfoldable pub is_before : Project → ℕ → ℕ → Bool
unfolding successors_of
is_before P i j = nat_le 1 i && list_any (λ s. s == j) (successors_of P i)

abbrev pub Before : Project → ℕ → ℕ → Type 0
Before P i j = is_before P i j ≡ true

abbrev pub IsJob : Project → ℕ → Type 0
IsJob P j = (1 ≤ j) × (j ≤ job_count P)

abbrev pub IsMode : Project → ℕ → ℕ → Type 0
IsMode P j m = (1 ≤ m) × (m ≤ length (modes_of P j))

abbrev pub IsRenewable : Project → ℕ → Type 0
IsRenewable P k = (1 ≤ k) × (k ≤ renewables P)

abbrev pub IsNonrenewable : Project → ℕ → Type 0
IsNonrenewable P l = (1 ≤ l) × (l ≤ nonrenewables P)

-- the numbers from i on, n of them
abbrev pub numbers_from : ℕ → ℕ → List ℕ
numbers_from i zero = []
numbers_from i (suc n) = i ∷ numbers_from (i + 1) n

-- the jobs in ascending order
abbrev pub jobs : Project → List ℕ
jobs P = numbers_from 1 (job_count P)

-- no cycle: pairs join jobs, and there are numbers that rise along each pair
pub record IsAcyclic (P : Project) : Type 0 where
  pub jobs : (i j : ℕ) → Before P i j → IsJob P i × IsJob P j
  pub rank : ℕ → ℕ
  pub rises : (i j : ℕ) → Before P i j → rank i < rank j

-- a mode that speaks of each resource, within the limits
pub record IsModeWithinLimits (renewables nonrenewables : ℕ) (mode : Mode) : Type 0 where
  pub duration : mode.duration ≤ 10000
  pub all_requests : length mode.requests ≡ renewables
  pub all_needs : length mode.needs ≡ nonrenewables
  pub requests : All (λ r. r ≤ 1000000) mode.requests
  pub needs : All (λ r. r ≤ 1000000) mode.needs

abbrev pub IsAscending : List ℕ → Type 0
IsAscending [] = Unit {0}
IsAscending (i ∷ []) = Unit {0}
IsAscending (i ∷ j ∷ js) = (i < j) × IsAscending (j ∷ js)

-- a job of a project of n jobs: 1 to 16 modes, and ascending successors among the jobs
pub record IsActivityWithinLimits (n renewables nonrenewables : ℕ) (a : Activity) : Type 0 where
  pub some_mode : 1 ≤ length a.modes
  pub few_modes : length a.modes ≤ 16
  pub modes : All (IsModeWithinLimits renewables nonrenewables) a.modes
  pub ascending : IsAscending a.successors
  pub successors : All (λ s. (1 ≤ s) × (s ≤ n)) a.successors

-- a row of the calendar: some of the first 10,000 periods, in which there is no more of the resource than its capacity
pub record IsRowWithinLimits (capacities : List ℕ) (row : CalRow) : Type 0 where
  pub some_resource : 1 ≤ row.resource
  pub few_resources : row.resource ≤ length capacities
  pub some_period : row.begin < row.until
  pub until : row.until ≤ 10000
  pub capacity : row.capacity ≤ slice_index capacities (row.resource - 1)

-- a row may stand before the other: it is of a lower resource, or of the same one and over by then
abbrev pub MayPrecede : CalRow → CalRow → Type 0
MayPrecede a b = (a.resource < b.resource) ⊎ ((a.resource ≡ b.resource) × (a.until ≤ b.begin))

-- rows by ascending resource, and those of one resource one after the other
abbrev pub IsInOrder : List CalRow → Type 0
IsInOrder [] = Unit {0}
IsInOrder (a ∷ []) = Unit {0}
IsInOrder (a ∷ b ∷ rows) = MayPrecede a b × IsInOrder (b ∷ rows)

-- the limits of this project's own: 1 to 128 jobs, at most 512 modes in all, at most 16 resources of each kind and 256 rows
-- in the calendar
pub record IsWithinLimits (P : Project) : Type 0 where
  pub some_job : 1 ≤ job_count P
  pub few_jobs : job_count P ≤ 128
  pub few_modes : sum_by (λ a. length a.modes) P.activities ≤ 512
  pub few_renewables : renewables P ≤ 16
  pub few_nonrenewables : nonrenewables P ≤ 16
  pub activities : All (IsActivityWithinLimits (length P.activities) (length P.capacities) (length P.budgets)) P.activities
  pub capacities : All (λ c. c ≤ 1000000) P.capacities
  pub budgets : All (λ b. b ≤ 1000000) P.budgets
  pub few_rows : length P.calendar ≤ 256
  pub rows : All (IsRowWithinLimits P.capacities) P.calendar
  pub calendar : IsInOrder P.calendar

-- a project: within the limits, and without a cycle
pub record IsProject (P : Project) : Type 0 where
  pub limits : IsWithinLimits P
  pub acyclic : IsAcyclic P
