-- For which bytes a checker stands.
use Rattle.std.specs.Prelude.{◌≡◌, ℕ, ◌+◌, ◌*◌, ◌≤◌, ◌↔◌, true, false, Option, Some, None, Result, Ok, Err, List, [], ◌++◌, length, take}
use Rattle.std.specs.List.{AllByRecursion}
use Rattle.std.specs.Result.{IsOk}
use Rattle.rcpsp_model.specs.Project.{Project, job_count}
use Rattle.rcpsp_model.specs.Claim.{NoneEndsBefore}
use Rattle.proof_log.specs.declared.line_reader.LineStep.{LineStep}
use Rattle.proof_log.specs.declared.line_reader.LineStep.TheVariants.{More, Line, TooLong}
use Rattle.proof_log.specs.declared.line_reader.TheConstants.{LONGEST_LINE}
use Rattle.proof_log.specs.Lines.{ReaderState, is_line_end}
use Rattle.window_refuter.specs.declared.line.BoundLine.{BoundLine}
use Rattle.bound_checker.specs.declared.checker.BoundRefusal.{BoundRefusal}
use Rattle.bound_checker.specs.declared.course.Course.{Course}
use Rattle.bound_checker.specs.declared.feeding.Part.{Part}
use Rattle.bound_checker.specs.declared.feeding.Part.TheVariants.{Ended, Whole, Stopped}
use Rattle.bound_checker.specs.Text.{text_of}
use Rattle.bound_checker.specs.Judged.{AcceptsBound, IsBoundRefusal, IsBroken}
use Rattle.bound_checker.specs.Stages.{is_ended, IsAt}

-- what contracts see of a checker: its project, the line in hand, what is kept of the whole lines, and the refusal, if there
-- was one
pub record BoundCheckerState : Type 0 where
  pub project : Project
  pub reader : ReaderState
  pub course : Course
  pub refused : Option BoundRefusal

-- the bytes of the line in hand, of which no LF has come
abbrev pub held_after : LineStep → List ℕ → List ℕ
held_after More line = line
held_after Line line = []
held_after TooLong line = line

abbrev pub held : ReaderState → List ℕ
held reader = held_after reader.last reader.line

-- no line was too long
abbrev pub GoesOn : LineStep → Type 0
GoesOn TooLong = ⊥
GoesOn More = Unit {0}
GoesOn Line = Unit {0}

-- no LF is among the bytes
abbrev pub HasNoEnd : List ℕ → Type 0
HasNoEnd bytes = AllByRecursion (λ byte. is_line_end byte ≡ false) bytes

-- the bytes are lines that may stand there and the beginning of one more, and what is kept stands for them
pub record Runs (P : Project) (reader : ReaderState) (course : Course) (bytes : List ℕ) : Type 0 where
  pub lines : List BoundLine
  pub at : IsAt P course.stage course.windows lines
  pub text : bytes ≡ text_of lines ++ held reader
  pub size : length (text_of lines) ≤ 65 * length lines
  pub short : length (held reader) ≤ LONGEST_LINE
  pub no_end : HasNoEnd (held reader)
  pub bare : is_ended course.stage ≡ true → held reader ≡ []
  pub goes_on : GoesOn reader.last
  pub number_is : course.number ≡ length lines + 1

-- without a refusal the lines so far may stand there; a refusal is the first line that may not
abbrev pub StandsAs : BoundCheckerState → List ℕ → Option BoundRefusal → Type 0
StandsAs c bytes None = Runs c.project c.reader c.course bytes
StandsAs c bytes (Some refused) = IsBroken c.project bytes refused.line

-- the checker stands for these bytes, however they came
abbrev pub StandsFor : BoundCheckerState → List ℕ → Type 0
StandsFor c bytes = StandsAs c bytes c.refused

-- there is a window for each job
abbrev pub IsReady : Project → Course → Type 0
IsReady P course = length course.windows.windows ≡ job_count P

-- A part of a piece.

-- behind bytes whose lines may stand there: the part ends one more; or the whole piece goes on with a line; or the bytes with the
-- piece have a line that may not stand there
abbrev pub IsPart : Project → ReaderState → Course → List ℕ → Part → ReaderState → Course → Type 0
IsPart P reader course piece (Ended n) reader' course' = (1 ≤ n) × (n ≤ length piece) × ((bytes : List ℕ) → Runs P reader course bytes → Runs P reader' course' (bytes ++ take n piece))
IsPart P reader course piece Whole reader' course' = (bytes : List ℕ) → Runs P reader course bytes → Runs P reader' course' (bytes ++ piece)
IsPart P reader course piece Stopped reader' course' = (bytes : List ℕ) → Runs P reader course bytes → IsBroken P (bytes ++ piece) course'.number

-- What a call says.

-- no refusal exactly where no line shows that it may not stand there, and else the first that does
pub record IsFed (P : Project) (bytes : List ℕ) (out : Result (Unit {0}) BoundRefusal) : Type 0 where
  pub unbroken : IsOk out ↔ ((line : ℕ) → IsBroken P bytes line → ⊥)
  pub broken : (refused : BoundRefusal) → (out ≡ Err refused) ↔ IsBroken P bytes refused.line

-- a bound exactly where the bytes are accepted as its text, and then no feasible schedule ends before it; and a refusal exactly
-- where they aren't, of the first line that may not stand there
pub record IsJudgement (P : Project) (bytes : List ℕ) (out : Result ℕ BoundRefusal) : Type 0 where
  pub accepted : (b : ℕ) → (out ≡ Ok b) ↔ AcceptsBound P bytes b
  pub refused : (refused : BoundRefusal) → (out ≡ Err refused) ↔ IsBoundRefusal P bytes refused.line
  pub sound : (b : ℕ) → AcceptsBound P bytes b → NoneEndsBefore P b
