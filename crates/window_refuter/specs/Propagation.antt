-- Windows that are narrowed step by step until no step narrows them.
use Rattle.std.specs.Prelude.{◌≡◌, ℕ, ◌+◌, ◌-◌, ◌<◌, ◌≤◌, false, List, [], ◌∷◌, sum_by, All}
use Rattle.rcpsp_model.specs.Project.{Project, IsJob}
use Rattle.window_refuter.specs.declared.window.Window.{Window}
use Rattle.window_refuter.specs.declared.step.BoundStep.{BoundStep}
use Rattle.window_refuter.specs.declared.step.BoundStep.TheVariants.{Head, Tail, Disjoint, Work, Empty}
use Rattle.window_refuter.specs.declared.propagation.Tightened.{Tightened}
use Rattle.window_refuter.specs.declared.propagation.Tightened.TheVariants.{Unchanged, Changed, Emptied}
use Rattle.window_refuter.specs.Windows.{lf_of, earliest_finish, IsEmptyWindow, NoneIsEmpty, LiesInside}
use Rattle.window_refuter.specs.Steps.{IsAllowed, is_contradiction, after_step}
use Rattle.window_refuter.specs.Narrowing.{Narrows}

-- each step is allowed in the windows that the steps before it leave, and none is a contradiction; the last windows are these
abbrev pub LeadsTo : Project → ℕ → List Window → List BoundStep → List Window → Type 0
LeadsTo P T ws [] last = last ≡ ws
LeadsTo P T ws (step ∷ steps) last = IsAllowed P T ws step × (is_contradiction step ≡ false) × LeadsTo P T (after_step P ws step) steps last

-- how much the windows leave to be narrowed: the periods before each finish, and those from each start up to period
-- 1,290,000
unfoldable pub room : List Window → ℕ
room ws = sum_by (λ w. w.latest_finish + (1290000 - w.earliest_start)) ws

-- windows and the steps that led to them, some steps later
pub record IsNarrowed (P : Project) (T : ℕ) (old : List Window) (old_steps : List BoundStep) (new : List Window) (steps : List BoundStep) : Type 0 where
  pub leads : (first : List Window) → LeadsTo P T first old_steps old → LeadsTo P T first steps new
  pub inside : LiesInside P new old

-- what becomes of windows by steps: none of them narrows one; or some did, and no window is empty; or one is
abbrev pub IsTightened : Project → List BoundStep → List Window → Tightened → List Window → Type 0
IsTightened P tried old Unchanged new = (new ≡ old) × All (λ step. Narrows P old step → ⊥) tried
IsTightened P tried old Changed new = (room new < room old) × NoneIsEmpty P new
IsTightened P tried old (Emptied j) new = IsJob P j × IsEmptyWindow P new j

-- no window is empty, and none of the steps narrows one
pub record IsAtRest (P : Project) (steps : List BoundStep) (ws : List Window) : Type 0 where
  pub none_empty : NoneIsEmpty P ws
  pub rests : All (λ step. Narrows P ws step → ⊥) steps

-- of the windows of some jobs, one is empty, or none is
abbrev pub IsCheckedAt : Project → List ℕ → List Window → Tightened → Type 0
IsCheckedAt P js ws Unchanged = ⊥
IsCheckedAt P js ws Changed = All (λ j. earliest_finish P ws j ≤ lf_of ws j) js
IsCheckedAt P js ws (Emptied j) = IsJob P j × IsEmptyWindow P ws j

-- whether the windows that a step narrows are empty
abbrev pub IsChecked : Project → BoundStep → List Window → Tightened → Type 0
IsChecked P (Head i j) ws t = IsCheckedAt P (j ∷ []) ws t
IsChecked P (Tail i j) ws t = IsCheckedAt P (i ∷ []) ws t
IsChecked P (Disjoint i j k) ws t = IsCheckedAt P (i ∷ j ∷ []) ws t
IsChecked P (Work k a b) ws t = Unit {0}
IsChecked P (Empty j) ws t = Unit {0}
