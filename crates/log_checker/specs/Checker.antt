-- For which bytes a checker stands.
use Rattle.std.specs.Prelude.{◌≡◌, ℕ, ◌+◌, ◌≤◌, ◌↔◌, min, Option, Some, None, Result, Ok, Err, List, [], ◌++◌, length, take}
use Rattle.std.specs.Result.{IsOk}
use Rattle.rcpsp_model.specs.declared.parts.Verdict.{Verdict}
use Rattle.rcpsp_model.specs.Project.{Project}
use Rattle.rcpsp_model.specs.Claim.{Claim}
use Rattle.proof_log.specs.declared.line_reader.LineStep.{LineStep}
use Rattle.proof_log.specs.declared.line_reader.LineStep.TheVariants.{More, Line, TooLong}
use Rattle.proof_log.specs.Lines.{ReaderState}
use Rattle.log_truth.specs.Holds.{AreServed, HasLower, Accepts}
use Rattle.log_checker.specs.declared.refused.Refused.{Refused}
use Rattle.log_checker.specs.declared.refused.Refused.TheVariants.{Report, NoMemory}
use Rattle.log_checker.specs.declared.course.Course.{Course}
use Rattle.log_checker.specs.declared.feeding.Part.{Part}
use Rattle.log_checker.specs.declared.feeding.Part.TheVariants.{Ended, Whole, Stopped}
use Rattle.log_checker.specs.declared.reason.Reason.{Reason}
use Rattle.log_checker.specs.declared.stage.Stage.TheVariants as stages
use Rattle.log_checker.specs.Reasons.{number_of}
use Rattle.log_checker.specs.Progress.{Progress, start}
use Rattle.log_checker.specs.Refusal.{whole_lines, rest_of, Leads, IsQuiet, IsBroken, IsRefusal}
use Rattle.log_checker.specs.Course.{IsReady, Holds}

-- what contracts see of a checker: its project, the line in hand with its number, what is kept of the whole lines, and the
-- refusal, if there was one
pub record CheckerState : Type 0 where
  pub project : Project
  pub reader : ReaderState
  pub number : ℕ
  pub course : Course
  pub refused : Option Refused

-- the bytes of the line in hand, of which no LF has come
abbrev pub held_after : LineStep → List ℕ → List ℕ
held_after More line = line
held_after Line line = []
held_after TooLong line = line

abbrev pub held : ReaderState → List ℕ
held reader = held_after reader.last reader.line

-- no line was too long
abbrev pub GoesOn : LineStep → Type 0
GoesOn TooLong = ⊥
GoesOn More = Unit {0}
GoesOn Line = Unit {0}

-- the bytes break no rule yet, and what is kept stands for them
pub record Runs (P : Project) (reader : ReaderState) (number : ℕ) (course : Course) (bytes : List ℕ) : Type 0 where
  pub progress : Progress
  pub leads : Leads P start (whole_lines bytes) progress
  pub quiet : IsQuiet progress (rest_of bytes)
  pub holds : Holds P course progress
  pub rest : held reader ≡ rest_of bytes
  pub goes_on : GoesOn reader.last
  pub number_is : number ≡ min (length (whole_lines bytes) + 1) 4294967295

-- the line and the number of a reason for which the bytes are refused
abbrev pub Breaks : Project → List ℕ → ℕ → ℕ → Type 0
Breaks P bytes line number = (reason : Reason) × (number ≡ number_of reason) × IsBroken P bytes line reason

-- without a refusal the bytes break no rule yet; a refusal is the first rule that they break, or want of memory, which may
-- come at any byte
abbrev pub StandsAs : CheckerState → List ℕ → Option Refused → Type 0
StandsAs c bytes None = Runs c.project c.reader c.number c.course bytes
StandsAs c bytes (Some (Report line number)) = Breaks c.project bytes line number
StandsAs c bytes (Some NoMemory) = Unit {0}

-- the checker stands for these bytes, however they came
abbrev pub StandsFor : CheckerState → List ℕ → Type 0
StandsFor c bytes = StandsAs c bytes c.refused

-- where nothing was refused, what is kept is of the project
abbrev pub IsReadyUnless : Project → Option Refused → Course → Type 0
IsReadyUnless P None course = IsReady P course
IsReadyUnless P (Some refused) course = Unit {0}

-- A part of a piece.

-- the bytes are refused so
abbrev pub RefusedAs : Project → List ℕ → Refused → Type 0
RefusedAs P bytes (Report line number) = Breaks P bytes line number
RefusedAs P bytes NoMemory = Unit {0}

-- after bytes that break no rule: the part ends a line, and the bytes with it break none; or the whole piece goes on with a
-- line; or the bytes with the piece are refused
abbrev pub IsPart : Project → ReaderState → ℕ → Course → List ℕ → Part → ReaderState → ℕ → Course → Type 0
IsPart P reader number course piece (Ended n) reader' number' course' =
    (1 ≤ n) × (n ≤ length piece) × IsReady P course' × ((bytes : List ℕ) → Runs P reader number course bytes → Runs P reader' number' course' (bytes ++ take n piece))
IsPart P reader number course piece Whole reader' number' course' =
    IsReady P course' × ((bytes : List ℕ) → Runs P reader number course bytes → Runs P reader' number' course' (bytes ++ piece))
IsPart P reader number course piece (Stopped refused) reader' number' course' = (bytes : List ℕ) → Runs P reader number course bytes → RefusedAs P (bytes ++ piece) refused

-- after a piece: the bytes with it break no rule, or are refused
abbrev pub IsAfter : Project → ReaderState → ℕ → Course → List ℕ → Option Refused → Type 0
IsAfter P reader number course bytes None = Runs P reader number course bytes
IsAfter P reader number course bytes (Some refused) = RefusedAs P bytes refused

-- as soon as the bytes show it: no refusal exactly where they break no rule yet, and a line and a reason exactly where these are
-- the first that they break
pub record IsShown (P : Project) (bytes : List ℕ) (out : Result (Unit {0}) Refused) : Type 0 where
  pub unbroken : IsOk out ↔ ((line : ℕ) (reason : Reason) → IsBroken P bytes line reason → ⊥)
  pub broken : (line number : ℕ) → (out ≡ Err (Report line number)) ↔ Breaks P bytes line number

-- it is shown, unless memory was refused
abbrev pub IsFed : Project → List ℕ → Result (Unit {0}) Refused → Type 0
IsFed P bytes (Ok done) = IsShown P bytes (Ok done)
IsFed P bytes (Err (Report line number)) = IsShown P bytes (Err (Report line number))
IsFed P bytes (Err NoMemory) = Unit {0}

-- At the end.

-- the bytes are an accepted report: they end with the last line, each citation serves, and the lower bound is right
pub record IsAcceptedAs (P : Project) (bytes : List ℕ) (verdict : Verdict) : Type 0 where
  pub progress : Progress
  pub leads : Leads P start (whole_lines bytes) progress
  pub ended : progress.stage ≡ stages.Ended verdict
  pub all : rest_of bytes ≡ []
  pub served : AreServed P progress.lines
  pub lower : HasLower verdict progress.lines

-- the line and the number of the reason for which the whole text is refused
abbrev pub IsRefusedAs : Project → List ℕ → ℕ → ℕ → Type 0
IsRefusedAs P bytes line number = (reason : Reason) × (number ≡ number_of reason) × IsRefusal P bytes line reason

-- the bytes are accepted; or they are refused, with the first rule that they break; or memory was refused
abbrev pub IsOutcome : Project → List ℕ → Result Verdict Refused → Type 0
IsOutcome P bytes (Ok verdict) = IsAcceptedAs P bytes verdict
IsOutcome P bytes (Err (Report line number)) = IsRefusedAs P bytes line number
IsOutcome P bytes (Err NoMemory) = Unit {0}

-- the bytes are the text of a report of this verdict that holds
pub record AcceptsAs (P : Project) (bytes : List ℕ) (verdict : Verdict) : Type 0 where
  pub accepts : Accepts P bytes
  pub is_its : accepts.report.verdict ≡ verdict

-- a verdict exactly where the bytes are the text of a report of this verdict that holds; and a line and a reason exactly where
-- these are the first that the text breaks. What a text that is accepted claims, with the schedule in it, is true
pub record IsJudgement (P : Project) (bytes : List ℕ) (out : Result Verdict Refused) : Type 0 where
  pub accepted : (verdict : Verdict) → (out ≡ Ok verdict) ↔ AcceptsAs P bytes verdict
  pub refused : (line number : ℕ) → (out ≡ Err (Report line number)) ↔ IsRefusedAs P bytes line number
  pub claim : (text : Accepts P bytes) → Claim P text.report.verdict text.report.best

-- the bytes are judged, unless memory was refused
abbrev pub IsFinished : Project → List ℕ → Result Verdict Refused → Type 0
IsFinished P bytes (Ok verdict) = IsJudgement P bytes (Ok verdict)
IsFinished P bytes (Err (Report line number)) = IsJudgement P bytes (Err (Report line number))
IsFinished P bytes (Err NoMemory) = Unit {0}
