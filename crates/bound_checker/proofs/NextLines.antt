-- What comes of a line, at each stage.
use Rattle.std.proofs.Common.{◌≡◌, ℕ, suc, ◌+◌, ◌-◌, ◌<◌, ◌≤◌, ◌∙◌, arith, refl, sym, ap, subst, true, false, List, [], ◌∷◌, ◌++◌, map, append_assoc, Option, Some, None}
use Rattle.rcpsp_model.specs.Project.{Project, IsProject}
use Rattle.window_refuter.specs.declared.step.BoundStep.{BoundStep}
use Rattle.window_refuter.specs.declared.line.BoundLine.{BoundLine}
use Rattle.window_refuter.specs.declared.line.BoundLine.TheVariants.{Title, Bound, Step, End}
use Rattle.window_refuter.specs.Windows.{TimeWindows, first_windows}
use Rattle.window_refuter.specs.Steps.{IsAllowed, is_contradiction, after_step, Refutes}
use Rattle.window_refuter.proofs.Narrowed.{leads-push, leads-refutes}
use Rattle.window_refuter.specs.Text.{line_text, IsLine}
use Rattle.bound_checker.specs.declared.stage.Stage.{Stage}
use Rattle.bound_checker.specs.Beginning.{AreSteps, FollowsBound, FollowsTitle, IsBeginning}
use Rattle.bound_checker.specs.Stages.{HasSteps, HasShown, HasEnded, IsNext, IsNextText}
use Rattle.bound_checker.proofs.Beginnings.{follow, shown-end, is-line}
use Rattle.bound_checker.proofs.LineTexts.{one_line}

pub begin-title : (P : Project) (lines : List BoundLine) (line : BoundLine) → lines ≡ [] → IsBeginning P (lines ++ line ∷ []) → line ≡ Title
begin-title P lines line at h = own line (subst (λ (ls : List BoundLine). IsBeginning P (ls ++ line ∷ [])) at h)
  where
    own : (l : BoundLine) → IsBeginning P (l ∷ []) → l ≡ Title
    own Title b = refl
    own (Bound n) b = absurd b
    own (Step step) b = absurd b
    own End b = absurd b

pub begin-bound : (P : Project) (lines : List BoundLine) (line : BoundLine) → lines ≡ Title ∷ [] → IsBeginning P (lines ++ line ∷ []) → (b : ℕ) × (line ≡ Bound b) × (b ≤ 1290001)
begin-bound P lines line at h = own line (subst (λ (ls : List BoundLine). IsBeginning P (ls ++ line ∷ [])) at h)
  where
    own : (l : BoundLine) → FollowsTitle P (l ∷ []) → (b : ℕ) × (l ≡ Bound b) × (b ≤ 1290001)
    own Title b = absurd b
    own (Bound n) b = (n, refl, b.0)
    own (Step step) b = absurd b
    own End b = absurd b

pub begin-step : (P : Project) (W : TimeWindows) (lines : List BoundLine) (line : BoundLine) → HasSteps P W lines → IsBeginning P (lines ++ line ∷ []) → (step : BoundStep) × (line ≡ Step step) × IsAllowed P W.end W.windows step
begin-step P W lines line at h =
    let all = subst (λ (ls : List BoundLine). IsBeginning P (ls ++ line ∷ [])) at.lines_are h in
    own line (follow P W.end (first_windows P W.end) W.windows at.steps (line ∷ []) at.leads all.1)
  where
    own : (l : BoundLine) → AreSteps P W.end W.windows (l ∷ []) → (step : BoundStep) × (l ≡ Step step) × IsAllowed P W.end W.windows step
    own Title b = absurd b
    own (Bound n) b = absurd b
    own (Step step) b = (step, refl, b.0)
    own End b = absurd b

pub begin-end : (P : Project) (b : ℕ) (lines : List BoundLine) (line : BoundLine) → HasShown P b lines → IsBeginning P (lines ++ line ∷ []) → line ≡ End
begin-end P b lines line at h =
    let all = subst (λ (ls : List BoundLine). IsBeginning P (ls ++ line ∷ [])) at.lines_are h in
    (shown-end P b at.steps (line ∷ []) at.shows all.1).0

pub begin-none : (P : Project) (b : ℕ) (lines : List BoundLine) (line : BoundLine) → HasEnded P b lines → IsBeginning P (lines ++ line ∷ []) → ⊥
begin-none P b lines line at h =
    let all = subst (λ (ls : List BoundLine). IsBeginning P (ls ++ line ∷ [])) at.lines_are h in
    some (shown-end P b at.steps (End ∷ line ∷ []) at.shows (subst (FollowsBound P b) (append_assoc (map Step at.steps) (End ∷ []) (line ∷ [])) all.1)).1
  where
    some : line ∷ [] ≡ [] → ⊥
    some e = absurd (cc)

-- The next stage.

pub title-next : (lines : List BoundLine) → lines ≡ [] → lines ++ Title ∷ [] ≡ Title ∷ []
title-next lines at = ap (λ (ls : List BoundLine). ls ++ Title ∷ []) at

pub zero-next : (P : Project) (b : ℕ) (lines : List BoundLine) → b ≡ 0 → lines ≡ Title ∷ [] → HasShown P 0 (lines ++ Bound b ∷ [])
zero-next P b lines none at = record {
  steps = [];
  lines_are = ap (λ (ls : List BoundLine). ls ++ Bound b ∷ []) at ∙ ap (λ (n : ℕ). Title ∷ Bound n ∷ []) none;
  most = omega arith;
  shows = record { refutes = λ some. absurd (omega arith); none = λ zero_. refl };
}

pub bound-next : (P : Project) (W : TimeWindows) (b : ℕ) (lines : List BoundLine) → 0 < b → b ≤ 1290001 → W ≡ record { end = b - 1; windows = first_windows P (b - 1) } → lines ≡ Title ∷ [] → HasSteps P W (lines ++ Bound b ∷ [])
bound-next P W b lines some most first at =
    let e : b ≡ suc (b - 1) = omega arith in
    subst (λ (V : TimeWindows). HasSteps P V (lines ++ Bound b ∷ [])) (sym first) (record {
      steps = [];
      lines_are = ap (λ (ls : List BoundLine). ls ++ Bound b ∷ []) at ∙ ap (λ (n : ℕ). Title ∷ Bound n ∷ []) e;
      soon = omega arith;
      leads = refl;
    })

map-push : (steps : List BoundStep) (step : BoundStep) → map Step steps ++ Step step ∷ [] ≡ map Step (steps ++ step ∷ [])
map-push [] step = refl
map-push (s ∷ steps) step = ap (λ (ls : List BoundLine). Step s ∷ ls) (map-push steps step)

pushed : (b : ℕ) (lines : List BoundLine) (steps : List BoundStep) (step : BoundStep) → lines ≡ Title ∷ Bound b ∷ map Step steps → lines ++ Step step ∷ [] ≡ Title ∷ Bound b ∷ map Step (steps ++ step ∷ [])
pushed b lines steps step at = ap (λ (ls : List BoundLine). ls ++ Step step ∷ []) at ∙ ap (λ (ls : List BoundLine). Title ∷ Bound b ∷ ls) (map-push steps step)

pub step-next : (P : Project) (W new : TimeWindows) (step : BoundStep) (lines : List BoundLine) → IsAllowed P W.end W.windows step → is_contradiction step ≡ false → new ≡ record { end = W.end; windows = after_step P W.windows step } →
    HasSteps P W lines → HasSteps P new (lines ++ Step step ∷ [])
step-next P W new step lines allowed further is at =
    subst (λ (V : TimeWindows). HasSteps P V (lines ++ Step step ∷ [])) (sym is) (record {
      steps = at.steps ++ step ∷ [];
      lines_are = pushed (suc W.end) lines at.steps step at.lines_are;
      soon = at.soon;
      leads = leads-push P W.end (first_windows P W.end) W.windows at.steps step at.leads allowed further;
    })

pub shown-next : (P : Project) (W : TimeWindows) (b : ℕ) (step : BoundStep) (lines : List BoundLine) → IsAllowed P W.end W.windows step → is_contradiction step ≡ true → b ≡ W.end + 1 → HasSteps P W lines → HasShown P b (lines ++ Step step ∷ [])
shown-next P W b step lines allowed last is at =
    let e : suc W.end ≡ b = omega arith in
    let f : W.end ≡ b - 1 = omega arith in
    let soon = at.soon in
    record {
      steps = at.steps ++ step ∷ [];
      lines_are = pushed b lines at.steps step (at.lines_are ∙ ap (λ (n : ℕ). Title ∷ Bound n ∷ map Step at.steps) e);
      most = omega arith;
      shows = record {
        refutes = λ some. subst (λ (n : ℕ). Refutes P n (at.steps ++ step ∷ [])) f (leads-refutes P W.end (first_windows P W.end) W.windows at.steps step at.leads allowed last);
        none = λ zero_. absurd (omega arith);
      };
    }

pub end-next : (P : Project) (b : ℕ) (lines : List BoundLine) → HasShown P b lines → HasEnded P b (lines ++ End ∷ [])
end-next P b lines at = record { steps = at.steps; lines_are = ap (λ (ls : List BoundLine). ls ++ End ∷ []) at.lines_are; most = at.most; shows = at.shows }

-- By the bytes of a line.

pub step-of : (P : Project) (W : TimeWindows) (step other : BoundStep) → ◌≡◌ {A = BoundLine} (Step step) (Step other) → IsAllowed P W.end W.windows other → IsAllowed P W.end W.windows step
step-of P W step other same allowed = let e : other ≡ step = cc in subst (λ (s : BoundStep). IsAllowed P W.end W.windows s) e allowed

pub text-next : (P : Project) → IsProject P → (stage : Stage) (W new : TimeWindows) (bytes : List ℕ) (line : BoundLine) (out : Option Stage) → IsLine line → bytes ≡ line_text line → IsNext P stage W line out new → IsNextText P stage W bytes out new
text-next P is stage W new bytes line None is_line text next =
    λ lines other at same b.
    let e = one_line line other is_line (is-line P lines other is b) (sym text ∙ same) in
    next lines at (subst (λ (l : BoundLine). IsBeginning P (lines ++ l ∷ [])) (sym e) b)
text-next P is stage W new bytes line (Some stage') is_line text next = (line, text, next)

pub none-next : (P : Project) → IsProject P → (lines : List BoundLine) (line : BoundLine) (found : Option BoundLine) → found ≡ None → IsBeginning P (lines ++ line ∷ []) → (IsLine line → found ≡ Some line) → ⊥
none-next P is lines line found none b all = let some = all (is-line P lines line is b) in cc
