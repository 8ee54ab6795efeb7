-- The precedence part: a row for each job, with its number of modes and its successors.
use Rattle.std.specs.Prelude.{◌≡◌, ℕ, zero, suc, ◌+◌, ◌-◌, ◌≤◌, min, List, [], ◌∷◌, ◌++◌, length, sum_by}
use Rattle.std.specs.List.{AllByRecursion}
pub use Rattle.psplib_layout.specs.declared.content.JobRow.{JobRow}
use Rattle.psplib_layout.specs.declared.fault.Fault.TheVariants.{OutOfLimit, WrongJobNumber, NoModes, SuccessorOutOfRange}
use Rattle.psplib_layout.specs.declared.rule.Rule.{Rule}
use Rattle.psplib_layout.specs.Rule.{exactly, up_to}
use Rattle.psplib_layout.specs.Wanted.{Wanted, give, ◌>>=◌, one, times}

-- ---- what the part is

-- the numbers of a job's row
abbrev pub row_numbers : ℕ → JobRow → List ℕ
row_numbers job row = job ∷ row.modes ∷ length row.successors ∷ row.successors

-- the numbers of these rows, the first of which is this job's
abbrev pub rows_numbers : ℕ → List JobRow → List ℕ
rows_numbers job [] = []
rows_numbers job (row ∷ rows) = row_numbers job row ++ rows_numbers (job + 1) rows

-- the number is one of the jobs
abbrev pub IsJob : ℕ → ℕ → Type 0
IsJob jobs job = (1 ≤ job) × (job ≤ jobs)

-- 1 to 16 modes, and at most 128 successors, each one of the jobs
pub record IsRow (jobs : ℕ) (row : JobRow) : Type 0 where
  pub some_mode : 1 ≤ row.modes
  pub few_modes : row.modes ≤ 16
  pub few_successors : length row.successors ≤ 128
  pub successors : AllByRecursion (IsJob jobs) row.successors

-- how many modes all jobs have together
abbrev pub mode_total : List JobRow → ℕ
mode_total rows = sum_by (λ row. row.modes) rows

-- a row for each job, and at most 512 modes in all
pub record AreRows (jobs : ℕ) (rows : List JobRow) : Type 0 where
  pub count : length rows ≡ jobs
  pub each : AllByRecursion (IsRow jobs) rows
  pub modes : mode_total rows ≤ 512

-- ---- which numbers are wanted, in their order, and the faults of others

-- where there is room for so many modes
abbrev pub mode_count : ℕ → Rule
mode_count room = record { least = 1; most = min 16 room; floor = 0; below = NoModes; above = OutOfLimit }

-- one of the jobs
abbrev pub successor : ℕ → Rule
successor jobs = record { least = 1; most = jobs; floor = 0; below = SuccessorOutOfRange; above = SuccessorOutOfRange }

-- the number of the job, its number of modes, its number of successors, and so many successors
unfoldable pub job_row : ℕ → ℕ → ℕ → Wanted JobRow
job_row jobs job room = do
  number ← one (exactly job WrongJobNumber)
  modes ← one (mode_count room)
  count ← one (up_to 128)
  successors ← times count (successor jobs)
  give (record { modes = modes; successors = successors })

-- so many rows, the first of which is this job's, and room for so many modes
unfoldable pub job_rows : ℕ → ℕ → ℕ → ℕ → Wanted (List JobRow)
job_rows zero jobs job room = give []
job_rows (suc left) jobs job room = do
  row ← job_row jobs job room
  rows ← job_rows left jobs (job + 1) (room - row.modes)
  give (row ∷ rows)

-- the rows of all jobs
abbrev pub all_rows : ℕ → Wanted (List JobRow)
all_rows jobs = job_rows jobs jobs 1 512
