-- One step of the steps that refute windows.
use Rattle.std.proofs.Common.{◌≡◌, ℕ, suc, ◌+◌, ◌<◌, ◌≤◌, arith, refl, sym, ap, subst, ◌∙◌, ◌↔◌, List, [], ◌∷◌, length, drop, get_or, Bool, true, false, MatchBool, drop-cons, length-drop}
use Rattle.rcpsp_model.specs.Project.{Project}
use Rattle.std.proofs.lemmas.List.{drop_all}
use Rattle.window_refuter.specs.declared.step.BoundStep.{BoundStep}
use Rattle.window_refuter.specs.declared.step.Judged.{Judged}
use Rattle.window_refuter.specs.declared.step.Judged.TheVariants.{NotAllowed, Further, Contradiction}
use Rattle.window_refuter.specs.Windows.{TimeWindows}
use Rattle.window_refuter.proofs.Within.{length-after}
use Rattle.std.specs.Bool.{IsTrue, OnTrue}
use Rattle.rcpsp_model.specs.Project.{IsAcyclic}
use Rattle.window_refuter.specs.Laws.{NoneEndsBy}
use Rattle.window_refuter.proofs.Refuted.{end_law}
use Rattle.window_refuter.specs.Steps.{IsJudged, Refutes, IsAllowed, is_contradiction, after_step, RefutesFrom}

-- the windows are refuted by the steps from a place on
abbrev pub FromPlace : Project → TimeWindows → List BoundStep → ℕ → Type 0
FromPlace P W steps i = RefutesFrom P W.end W.windows (drop i steps)

module _ (P : Project) (W : TimeWindows) (steps : List BoundStep) (i : ℕ) (d : BoundStep) (within : i < length steps) where
  -- the step at the place
  abbrev step : BoundStep
  step = get_or steps i d

  split : drop i steps ≡ step ∷ drop (i + 1) steps
  split =
      let next : suc i ≡ i + 1 = omega arith in
      drop-cons steps i d within ∙ ap (λ (n : ℕ). get_or steps i d ∷ drop n steps) next

  parts : FromPlace P W steps i → IsAllowed P W.end W.windows step × MatchBool (is_contradiction step) (drop (i + 1) steps ≡ []) (RefutesFrom P W.end (after_step P W.windows step) (drop (i + 1) steps))
  parts r = subst (RefutesFrom P W.end W.windows) split r

  whole : IsAllowed P W.end W.windows step × MatchBool (is_contradiction step) (drop (i + 1) steps ≡ []) (RefutesFrom P W.end (after_step P W.windows step) (drop (i + 1) steps)) → FromPlace P W steps i
  whole r = subst (RefutesFrom P W.end W.windows) (sym split) r

  -- a step that isn't allowed ends it
  at_not_allowed : (IsAllowed P W.end W.windows step → ⊥) → FromPlace P W steps i → ⊥
  at_not_allowed fails r = fails (parts r).0

  -- a contradiction has to be the last step
  at_contradiction : IsAllowed P W.end W.windows step → is_contradiction step ≡ true → FromPlace P W steps i ↔ (i + 1 ≡ length steps)
  at_contradiction allowed last = (
    λ r.
        let none : drop (i + 1) steps ≡ [] = subst (λ (b : Bool). MatchBool b (drop (i + 1) steps ≡ []) (RefutesFrom P W.end (after_step P W.windows step) (drop (i + 1) steps))) last (parts r).1 in
        let size = length-drop (i + 1) steps in
        let zero_ = ap length none in
        omega arith,
    λ all. whole (allowed, subst (λ (b : Bool). MatchBool b (drop (i + 1) steps ≡ []) (RefutesFrom P W.end (after_step P W.windows step) (drop (i + 1) steps))) (sym last) (drop_all (i + 1) steps (omega arith))),
  )

  -- another step leaves the rest to the windows after it
  at_further : (new : TimeWindows) → IsAllowed P W.end W.windows step → is_contradiction step ≡ false → new ≡ record W { windows = after_step P W.windows step } → FromPlace P W steps i ↔ FromPlace P new steps (i + 1)
  at_further new allowed further same = (
    λ r. subst (λ (V : TimeWindows). FromPlace P V steps (i + 1)) (sym same) (subst (λ (b : Bool). MatchBool b (drop (i + 1) steps ≡ []) (RefutesFrom P W.end (after_step P W.windows step) (drop (i + 1) steps))) further (parts r).1),
    λ r. whole (allowed, subst (λ (b : Bool). MatchBool b (drop (i + 1) steps ≡ []) (RefutesFrom P W.end (after_step P W.windows step) (drop (i + 1) steps))) (sym further) (subst (λ (V : TimeWindows). FromPlace P V steps (i + 1)) same r)),
  )

  -- the same by a judgement
  pub after-not_allowed : (new : TimeWindows) (r : Judged) → r ≡ NotAllowed → IsJudged P W step r new → FromPlace P W steps i → ⊥
  after-not_allowed new r is j = at_not_allowed (subst (λ (q : Judged). IsJudged P W step q new) is j).0

  pub after-contradiction : (new : TimeWindows) (r : Judged) → r ≡ Contradiction → IsJudged P W step r new → FromPlace P W steps i ↔ (i + 1 ≡ length steps)
  after-contradiction new r is j = let k = subst (λ (q : Judged). IsJudged P W step q new) is j in at_contradiction k.0 k.1

  pub after-further : (new : TimeWindows) (r : Judged) → r ≡ Further → IsJudged P W step r new → (length new.windows ≡ length W.windows) × (FromPlace P W steps i ↔ FromPlace P new steps (i + 1))
  after-further new r is j =
      let k = subst (λ (q : Judged). IsJudged P W step q new) is j in
      (ap (λ (V : TimeWindows). length V.windows) k.2 ∙ length-after P W.windows step, at_further new k.0 k.1 k.2)

-- no step is left
pub at_end : (P : Project) (W : TimeWindows) (steps : List BoundStep) (i : ℕ) → length steps ≤ i → FromPlace P W steps i → ⊥
at_end P W steps i past r = subst (RefutesFrom P W.end W.windows) (drop_all i steps past) r

-- an answer that is exact is sound
pub sound-from : (P : Project) (T : ℕ) (steps : List BoundStep) (b : Bool) → IsAcyclic P → (IsTrue b → Refutes P T steps) → OnTrue b (NoneEndsBy P T)
sound-from P T steps true acyclic exact = end_law P T steps acyclic (exact refl)
sound-from P T steps false acyclic exact = tt
