-- What a report says, and which reports have a text.
use Rattle.std.specs.Prelude.{◌≡◌, ℕ, ◌≤◌, not, Option, Some, None, is_some, IfSome, List, [], ◌∷◌, length, All}
use Rattle.sched_base.specs.declared.fate.Fate.{Fate}
use Rattle.sched_base.specs.declared.fate.Fate.TheVariants.{Expanded, Leaf, TailBound, WorkBound, Budget, Capacity, Worse, Cutset, Left}
use Rattle.rcpsp_model.specs.declared.parts.Placing.{Placing}
use Rattle.rcpsp_model.specs.declared.parts.Verdict.{Verdict}
use Rattle.rcpsp_model.specs.declared.parts.Verdict.TheVariants.{Optimal, Infeasible, Limit}
use Rattle.proof_log.specs.declared.letter.TheConstants.{EXPANDED, LEAF, TAIL_BOUND, WORK_BOUND, BUDGET, CAPACITY, WORSE, CUTSET, LEFT}
use Rattle.proof_log.specs.declared.report.LogLine.{LogLine}
use Rattle.proof_log.specs.declared.report.Report.{Report}
use Rattle.proof_log.specs.Line.{IsNumber, is_shut}

-- the duration of the schedule, and the lower bound of all schedules
abbrev pub duration_of : Verdict → Option ℕ
duration_of (Optimal duration) = Some duration
duration_of Infeasible = None
duration_of (Limit duration lower) = duration

abbrev pub lower_of : Verdict → Option ℕ
lower_of (Optimal duration) = Some duration
lower_of Infeasible = None
lower_of (Limit duration lower) = Some lower

-- the letter of a fate
abbrev pub letter_of : Fate → ℕ
letter_of Expanded = EXPANDED
letter_of Leaf = LEAF
letter_of TailBound = TAIL_BOUND
letter_of (WorkBound resource) = WORK_BOUND
letter_of (Budget resource) = BUDGET
letter_of (Capacity resource) = CAPACITY
letter_of (Worse mode) = WORSE
letter_of (Cutset line) = CUTSET
letter_of (Left bound) = LEFT

-- its number, 0 where it has none
abbrev pub fate_number : Fate → ℕ
fate_number Expanded = 0
fate_number Leaf = 0
fate_number TailBound = 0
fate_number (WorkBound resource) = resource
fate_number (Budget resource) = resource
fate_number (Capacity resource) = resource
fate_number (Worse mode) = mode
fate_number (Cutset line) = line
fate_number (Left bound) = bound

-- the root has neither job, mode nor start
pub record IsRootLine (line : LogLine) : Type 0 where
  pub job : line.job ≡ 0
  pub mode : line.mode ≡ 0
  pub start : line.start ≡ None
  pub number : IsNumber (fate_number line.fate)

-- any other line has a job and a mode, and a start unless the child is shut
pub record IsInnerLine (line : LogLine) : Type 0 where
  pub job : 1 ≤ line.job
  pub mode : 1 ≤ line.mode
  pub start : IfSome line.start IsNumber
  pub shut : is_some line.start ≡ not (is_shut (letter_of line.fate))
  pub number : IsNumber (fate_number line.fate)

-- the root stands on the first line, and there alone
abbrev pub IsLog : List LogLine → Type 0
IsLog [] = Unit {0}
IsLog (root ∷ lines) = IsRootLine root × All IsInnerLine lines

-- at most 128 jobs, and starts of at most nine digits
pub record IsPlan (places : List Placing) : Type 0 where
  pub jobs : length places ≤ 128
  pub starts : All (λ place. IsNumber place.start) places

-- a report whose schedule stands exactly where the verdict has a duration
pub record IsReport (report : Report) : Type 0 where
  pub duration : IfSome (duration_of report.verdict) IsNumber
  pub lower : IfSome (lower_of report.verdict) IsNumber
  pub has_best : is_some report.best ≡ is_some (duration_of report.verdict)
  pub best : IfSome report.best IsPlan
  pub log : IfSome report.log IsLog
