-- The requests part: a row for each mode of each job, with its duration, requests and needs.
use Rattle.std.specs.Prelude.{◌≡◌, ℕ, zero, suc, ◌+◌, List, [], ◌∷◌, ◌++◌, length, map}
use Rattle.std.specs.List.{AllByRecursion}
use Rattle.rcpsp_model.specs.declared.parts.Mode.{Mode}
use Rattle.rcpsp_model.specs.Project.{IsModeWithinLimits}
use Rattle.psplib_layout.specs.declared.fault.Fault.TheVariants.{WrongJobNumber, WrongModeNumber}
use Rattle.psplib_layout.specs.Rule.{exactly, up_to}
use Rattle.psplib_layout.specs.Wanted.{Wanted, give, ◌>>=◌, one, times}

-- ---- what the part is

-- the numbers of a mode's row
abbrev pub mode_numbers : ℕ → Mode → List ℕ
mode_numbers number mode = number ∷ mode.duration ∷ mode.requests ++ mode.needs

-- the numbers of these modes, the first of which has this number
abbrev pub modes_numbers : ℕ → List Mode → List ℕ
modes_numbers number [] = []
modes_numbers number (mode ∷ modes) = mode_numbers number mode ++ modes_numbers (number + 1) modes

-- the numbers of all modes, the first of which are this job's; a job's number stands before its first mode alone
abbrev pub all_modes_numbers : ℕ → List (List Mode) → List ℕ
all_modes_numbers job [] = []
all_modes_numbers job (modes ∷ more) = (job ∷ modes_numbers 1 modes) ++ all_modes_numbers (job + 1) more

-- each job has so many modes as its row says, within the limits
pub record AreModes (renewables nonrenewables : ℕ) (counts : List ℕ) (modes : List (List Mode)) : Type 0 where
  pub counts_are : map (λ ms. length ms) modes ≡ counts
  pub each : AllByRecursion (λ ms. AllByRecursion (IsModeWithinLimits renewables nonrenewables) ms) modes

-- ---- which numbers are wanted, in their order, and the faults of others

-- the number of the mode, its duration, its requests and its needs
unfoldable pub mode_row : ℕ → ℕ → ℕ → Wanted Mode
mode_row renewables nonrenewables mode = do
  number ← one (exactly mode WrongModeNumber)
  duration ← one (up_to 10000)
  requests ← times renewables (up_to 1000000)
  needs ← times nonrenewables (up_to 1000000)
  give (record { duration = duration; requests = requests; needs = needs })

-- so many modes, the first of which has this number
unfoldable pub mode_rows : ℕ → ℕ → ℕ → ℕ → Wanted (List Mode)
mode_rows zero renewables nonrenewables mode = give []
mode_rows (suc left) renewables nonrenewables mode = do
  row ← mode_row renewables nonrenewables mode
  rows ← mode_rows left renewables nonrenewables (mode + 1)
  give (row ∷ rows)

-- the modes of a job that has so many
unfoldable pub job_modes : ℕ → ℕ → ℕ → ℕ → Wanted (List Mode)
job_modes renewables nonrenewables job count = do
  number ← one (exactly job WrongJobNumber)
  mode_rows count renewables nonrenewables 1

-- the modes of jobs that have so many each, the first of which is this one
unfoldable pub all_modes : ℕ → ℕ → ℕ → List ℕ → Wanted (List (List Mode))
all_modes renewables nonrenewables job [] = give []
all_modes renewables nonrenewables job (count ∷ counts) = do
  modes ← job_modes renewables nonrenewables job count
  more ← all_modes renewables nonrenewables (job + 1) counts
  give (modes ∷ more)
