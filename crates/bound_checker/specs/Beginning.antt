-- Lines that the text of a bound may begin with.
use Rattle.std.specs.Prelude.{◌≡◌, ℕ, zero, suc, ◌≤◌, MatchBool, List, [], ◌∷◌}
use Rattle.rcpsp_model.specs.Project.{Project}
use Rattle.window_refuter.specs.declared.window.Window.{Window}
use Rattle.window_refuter.specs.declared.line.BoundLine.{BoundLine}
use Rattle.window_refuter.specs.declared.line.BoundLine.TheVariants.{Title, Bound, Step, End}
use Rattle.window_refuter.specs.Windows.{first_windows}
use Rattle.window_refuter.specs.Steps.{IsAllowed, is_contradiction, after_step}

-- the last line, or nothing yet
abbrev pub IsEnd : List BoundLine → Type 0
IsEnd [] = Unit {0}
IsEnd (line ∷ lines) = (line ≡ End) × (lines ≡ [])

-- steps, each allowed in the windows that those before it leave; behind a contradiction the last line
abbrev pub AreSteps : Project → ℕ → List Window → List BoundLine → Type 0
AreSteps P T ws [] = Unit {0}
AreSteps P T ws (Step step ∷ lines) = IsAllowed P T ws step × MatchBool (is_contradiction step) (IsEnd lines) (AreSteps P T (after_step P ws step) lines)
AreSteps P T ws (Title ∷ lines) = ⊥
AreSteps P T ws (Bound b ∷ lines) = ⊥
AreSteps P T ws (End ∷ lines) = ⊥

-- behind a bound: where it is above 0, steps that begin with all periods before it; else the last line
abbrev pub FollowsBound : Project → ℕ → List BoundLine → Type 0
FollowsBound P zero lines = IsEnd lines
FollowsBound P (suc T) lines = AreSteps P T (first_windows P T) lines

-- behind the title: a bound of at most 1,290,001, and what follows it
abbrev pub FollowsTitle : Project → List BoundLine → Type 0
FollowsTitle P [] = Unit {0}
FollowsTitle P (Bound b ∷ lines) = (b ≤ 1290001) × FollowsBound P b lines
FollowsTitle P (Title ∷ lines) = ⊥
FollowsTitle P (Step step ∷ lines) = ⊥
FollowsTitle P (End ∷ lines) = ⊥

-- each of the lines may stand behind those before it
abbrev pub IsBeginning : Project → List BoundLine → Type 0
IsBeginning P [] = Unit {0}
IsBeginning P (Title ∷ lines) = FollowsTitle P lines
IsBeginning P (Bound b ∷ lines) = ⊥
IsBeginning P (Step step ∷ lines) = ⊥
IsBeginning P (End ∷ lines) = ⊥
