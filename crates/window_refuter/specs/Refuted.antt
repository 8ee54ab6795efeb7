-- Windows and ends that no steps refute.
use Rattle.std.specs.Prelude.{◌≡◌, ℕ, ◌+◌, ◌-◌, ◌<◌, ◌≤◌, List, []}
use Rattle.rcpsp_model.specs.Project.{Project}
use Rattle.project_net.specs.Canonical.{horizon}
use Rattle.window_refuter.specs.declared.window.Window.{Window}
use Rattle.window_refuter.specs.declared.step.BoundStep.{BoundStep}
use Rattle.window_refuter.specs.Steps.{Refutes, RefutesFrom}

abbrev pub NoneRefutesFrom : Project → ℕ → List Window → Type 0
NoneRefutesFrom P T ws = (steps : List BoundStep) → RefutesFrom P T ws steps → ⊥

abbrev pub NoneRefutes : Project → ℕ → Type 0
NoneRefutes P T = (steps : List BoundStep) → Refutes P T steps → ⊥

-- the steps, if the number is above 0, show that no feasible schedule ends before it; if it is 0 there are none
pub record ShowsBound (P : Project) (b : ℕ) (steps : List BoundStep) : Type 0 where
  pub refutes : 0 < b → Refutes P (b - 1) steps
  pub none : b ≡ 0 → steps ≡ []

-- b is the least end up to the horizon that no steps refute, or one more than the horizon where there is none
pub record IsWindowBound (P : Project) (b : ℕ) : Type 0 where
  pub most : b ≤ horizon P + 1
  pub unrefuted : b ≤ horizon P → NoneRefutes P b
  pub least : (T : ℕ) → NoneRefutes P T → b ≤ T
