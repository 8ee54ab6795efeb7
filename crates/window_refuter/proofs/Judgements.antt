-- Each answer on a step is exact, since no two of them go together.
use Rattle.std.proofs.Common.{◌≡◌, refl, ◌↔◌, Bool, true, false}
use Rattle.rcpsp_model.specs.Project.{Project}
use Rattle.window_refuter.specs.declared.step.BoundStep.{BoundStep}
use Rattle.window_refuter.specs.declared.step.Judged.{Judged}
use Rattle.window_refuter.specs.declared.step.Judged.TheVariants.{NotAllowed, Further, Contradiction}
use Rattle.window_refuter.specs.Windows.{TimeWindows}
use Rattle.window_refuter.specs.Steps.{IsAllowed, IsJudged, is_contradiction}

not_both : (b : Bool) → b ≡ true → b ≡ false → ⊥
not_both b t f = cc

pub not_allowed_exact : (P : Project) (W new : TimeWindows) (step : BoundStep) (r : Judged) → IsJudged P W step r new → (r ≡ NotAllowed) ↔ (IsAllowed P W.end W.windows step → ⊥)
not_allowed_exact P W new step NotAllowed j = (λ _. j.0, λ _. refl)
not_allowed_exact P W new step Further j = (λ e. absurd (cc), λ fails. absurd (fails j.0))
not_allowed_exact P W new step Contradiction j = (λ e. absurd (cc), λ fails. absurd (fails j.0))

pub further_exact : (P : Project) (W new : TimeWindows) (step : BoundStep) (r : Judged) → IsJudged P W step r new → (r ≡ Further) ↔ (IsAllowed P W.end W.windows step × (is_contradiction step ≡ false))
further_exact P W new step NotAllowed j = (λ e. absurd (cc), λ a. absurd (j.0 a.0))
further_exact P W new step Further j = (λ _. (j.0, j.1), λ _. refl)
further_exact P W new step Contradiction j = (λ e. absurd (cc), λ a. absurd (not_both (is_contradiction step) j.1 a.1))

pub contradiction_exact : (P : Project) (W new : TimeWindows) (step : BoundStep) (r : Judged) → IsJudged P W step r new → (r ≡ Contradiction) ↔ (IsAllowed P W.end W.windows step × (is_contradiction step ≡ true))
contradiction_exact P W new step NotAllowed j = (λ e. absurd (cc), λ a. absurd (j.0 a.0))
contradiction_exact P W new step Further j = (λ e. absurd (cc), λ a. absurd (not_both (is_contradiction step) a.1 j.1))
contradiction_exact P W new step Contradiction j = (λ _. (j.0, j.1), λ _. refl)
