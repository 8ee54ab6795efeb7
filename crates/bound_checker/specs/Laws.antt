-- What the definitions of the text of a bound imply, for all projects and texts. Each is the contract of a function, and so is
-- proved.
use Rattle.std.specs.Prelude.{◌≡◌, ℕ, ◌≤◌, Some, None, List, ◌++◌, length}
use Rattle.rcpsp_model.specs.Project.{Project, IsProject}
use Rattle.rcpsp_model.specs.Claim.{NoneEndsBefore}
use Rattle.window_refuter.specs.declared.step.BoundStep.{BoundStep}
use Rattle.window_refuter.specs.Refuted.{ShowsBound}
use Rattle.bound_checker.specs.declared.checker.TheConstants.{MOST_TEXT}
use Rattle.bound_checker.specs.declared.checker.BoundRefusal.{BoundRefusal}
use Rattle.bound_checker.specs.Text.{text_of, bound_lines}
use Rattle.bound_checker.specs.Judged.{AcceptsBound, IsBoundRefusal, IsBroken}
use Rattle.bound_checker.specs.Checker.{BoundCheckerState, StandsFor}

-- a line that may not stand there, whatever comes, is the first such line of each text that begins so
abbrev pub StaysLaw : Type 0
StaysLaw = (P : Project) (bytes more : List ℕ) (n : ℕ) → IsProject P → IsBroken P bytes n → IsBroken P (bytes ++ more) n

abbrev pub BrokenLaw : Type 0
BrokenLaw = (P : Project) (bytes : List ℕ) (n : ℕ) → IsProject P → IsBroken P bytes n → IsBoundRefusal P bytes n

-- a checker that refused no line stands for few bytes
abbrev pub FewBytesLaw : Type 0
FewBytesLaw = (c : BoundCheckerState) (bytes : List ℕ) → IsProject c.project → c.refused ≡ None → StandsFor c bytes → length bytes ≤ MOST_TEXT

-- one that refused a line stands for the bytes that come as well
abbrev pub RefusedLaw : Type 0
RefusedLaw = (c : BoundCheckerState) (bytes more : List ℕ) (refused : BoundRefusal) → IsProject c.project → c.refused ≡ Some refused → StandsFor c bytes → StandsFor c (bytes ++ more)

-- one outcome at most: a text is accepted as that of one bound, or refused at one line
pub record IsOneOutcome (P : Project) (bytes : List ℕ) : Type 0 where
  pub bound : (b c : ℕ) → AcceptsBound P bytes b → AcceptsBound P bytes c → b ≡ c
  pub unrefused : (b n : ℕ) → AcceptsBound P bytes b → IsBoundRefusal P bytes n → ⊥
  pub line : (m n : ℕ) → IsBoundRefusal P bytes m → IsBoundRefusal P bytes n → m ≡ n

abbrev pub OneOutcomeLaw : Type 0
OneOutcomeLaw = (P : Project) (bytes : List ℕ) → IsProject P → IsOneOutcome P bytes

-- the text of a bound that its steps show is accepted
abbrev pub TextLaw : Type 0
TextLaw = (P : Project) (b : ℕ) (steps : List BoundStep) → b ≤ 1290001 → ShowsBound P b steps → AcceptsBound P (text_of (bound_lines b steps)) b

-- where a text is accepted, no feasible schedule ends before its bound
abbrev pub SoundLaw : Type 0
SoundLaw = (P : Project) (bytes : List ℕ) (b : ℕ) → IsProject P → AcceptsBound P bytes b → NoneEndsBefore P b
