-- What is kept of the lines of a text, and for which lines it stands.
use Rattle.std.specs.Prelude.{◌≡◌, ℕ, suc, ◌≤◌, Bool, true, false, Option, Some, None, List, [], ◌∷◌, ◌++◌, map}
use Rattle.rcpsp_model.specs.Project.{Project}
use Rattle.window_refuter.specs.declared.step.BoundStep.{BoundStep}
use Rattle.window_refuter.specs.declared.line.BoundLine.{BoundLine}
use Rattle.window_refuter.specs.declared.line.BoundLine.TheVariants.{Title, Bound, Step}
use Rattle.window_refuter.specs.Windows.{TimeWindows, first_windows}
use Rattle.window_refuter.specs.Text.{line_text}
use Rattle.window_refuter.specs.Propagation.{LeadsTo}
use Rattle.window_refuter.specs.Refuted.{ShowsBound}
use Rattle.bound_checker.specs.declared.stage.Stage.{Stage}
use Rattle.bound_checker.specs.declared.stage.Stage.TheVariants as stages
use Rattle.bound_checker.specs.Text.{bound_lines}
use Rattle.bound_checker.specs.Beginning.{IsBeginning}

-- the lines of a bound above 0 and of steps that lead from the first windows to these
pub record HasSteps (P : Project) (W : TimeWindows) (lines : List BoundLine) : Type 0 where
  pub steps : List BoundStep
  pub lines_are : lines ≡ Title ∷ Bound (suc W.end) ∷ map Step steps
  pub soon : W.end ≤ 1290000
  pub leads : LeadsTo P W.end (first_windows P W.end) steps W.windows

-- the lines of a bound and of steps that show it
pub record HasShown (P : Project) (b : ℕ) (lines : List BoundLine) : Type 0 where
  pub steps : List BoundStep
  pub lines_are : lines ≡ Title ∷ Bound b ∷ map Step steps
  pub most : b ≤ 1290001
  pub shows : ShowsBound P b steps

-- the same and the last line
pub record HasEnded (P : Project) (b : ℕ) (lines : List BoundLine) : Type 0 where
  pub steps : List BoundStep
  pub lines_are : lines ≡ bound_lines b steps
  pub most : b ≤ 1290001
  pub shows : ShowsBound P b steps

-- the stage and the windows stand for these lines
abbrev pub IsAt : Project → Stage → TimeWindows → List BoundLine → Type 0
IsAt P stages.Title W lines = lines ≡ []
IsAt P stages.Bound W lines = lines ≡ Title ∷ []
IsAt P stages.Step W lines = HasSteps P W lines
IsAt P (stages.End b) W lines = HasShown P b lines
IsAt P (stages.Ended b) W lines = HasEnded P b lines

-- whether nothing more is wanted
abbrev pub is_ended : Stage → Bool
is_ended (stages.Ended b) = true
is_ended stages.Title = false
is_ended stages.Bound = false
is_ended stages.Step = false
is_ended (stages.End b) = false

-- what comes of a line: it may not stand behind any lines for which the stage stands, or the next stage stands for them and it
abbrev pub IsNext : Project → Stage → TimeWindows → BoundLine → Option Stage → TimeWindows → Type 0
IsNext P stage W line None new = (lines : List BoundLine) → IsAt P stage W lines → IsBeginning P (lines ++ line ∷ []) → ⊥
IsNext P stage W line (Some next) new = (lines : List BoundLine) → IsAt P stage W lines → IsAt P next new (lines ++ line ∷ [])

-- the same of the bytes of a line
abbrev pub IsNextText : Project → Stage → TimeWindows → List ℕ → Option Stage → TimeWindows → Type 0
IsNextText P stage W bytes None new = (lines : List BoundLine) (line : BoundLine) → IsAt P stage W lines → bytes ≡ line_text line → IsBeginning P (lines ++ line ∷ []) → ⊥
IsNextText P stage W bytes (Some next) new = (line : BoundLine) × (bytes ≡ line_text line) × IsNext P stage W line (Some next) new
