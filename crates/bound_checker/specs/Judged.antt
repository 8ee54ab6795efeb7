-- What the text of a bound comes to: it shows its bound, or a line of it is the first that may not stand there.
use Rattle.std.specs.Prelude.{◌≡◌, ℕ, ◌+◌, ◌<◌, ◌≤◌, Bool, true, false, List, [], ◌∷◌, ◌++◌, length}
use Rattle.std.specs.List.{list_any}
use Rattle.rcpsp_model.specs.Project.{Project}
use Rattle.proof_log.specs.declared.line_reader.TheConstants.{LONGEST_LINE}
use Rattle.window_refuter.specs.declared.step.BoundStep.{BoundStep}
use Rattle.window_refuter.specs.declared.line.BoundLine.{BoundLine}
use Rattle.window_refuter.specs.declared.line.BoundLine.TheVariants.{Title, Bound, Step, End}
use Rattle.window_refuter.specs.Text.{line_text}
use Rattle.window_refuter.specs.Refuted.{ShowsBound}
use Rattle.bound_checker.specs.Text.{text_of, bound_lines}
use Rattle.bound_checker.specs.Beginning.{IsBeginning}

-- the bytes are the text of the bound b, which is at most 1,290,001: its steps refute the end before it, or it is 0 and has none
pub record AcceptsBound (P : Project) (bytes : List ℕ) (b : ℕ) : Type 0 where
  pub steps : List BoundStep
  pub text : bytes ≡ text_of (bound_lines b steps)
  pub most : b ≤ 1290001
  pub shows : ShowsBound P b steps

-- no line that may stand behind these stands at the front of the rest
abbrev pub NoneFollows : Project → List BoundLine → List ℕ → Type 0
NoneFollows P before rest = (line : BoundLine) (more : List ℕ) → rest ≡ line_text line ++ 0x0A ∷ more → IsBeginning P (before ++ line ∷ []) → ⊥

-- the lines before line n are right, and behind them none follows
pub record IsFault (P : Project) (bytes : List ℕ) (n : ℕ) : Type 0 where
  pub before : List BoundLine
  pub rest : List ℕ
  pub place : n ≡ length before + 1
  pub cut : bytes ≡ text_of before ++ rest
  pub begins : IsBeginning P before
  pub none : NoneFollows P before rest

-- line n is the first that may not stand there, in a text that isn't accepted; where the text ends too early, it is the line
-- behind its last LF
pub record IsBoundRefusal (P : Project) (bytes : List ℕ) (n : ℕ) : Type 0 where
  pub fault : IsFault P bytes n
  pub unaccepted : (b : ℕ) → AcceptsBound P bytes b → ⊥

abbrev pub is_end : BoundLine → Bool
is_end End = true
is_end Title = false
is_end (Bound b) = false
is_end (Step step) = false

-- what shows, whatever comes, that no line follows: a whole line, more bytes than a line may have, or a byte behind the last line
pub data IsShown (before : List BoundLine) (rest : List ℕ) : Type 0 where
  whole : (line more : List ℕ) → rest ≡ line ++ 0x0A ∷ more → IsShown before rest
  too_long : LONGEST_LINE < length rest → IsShown before rest
  behind_end : list_any is_end before ≡ true → 0 < length rest → IsShown before rest

-- line n is the first that may not stand there, whatever comes
pub record IsBroken (P : Project) (bytes : List ℕ) (n : ℕ) : Type 0 where
  pub fault : IsFault P bytes n
  pub shown : IsShown fault.before fault.rest
