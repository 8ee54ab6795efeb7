-- Steps that were appended.
use Rattle.std.proofs.Common.{◌≡◌, ℕ, ◌+◌, ◌-◌, ◌≤◌, inl, inr, arith, sym, subst, List, [], ◌∷◌, ◌++◌}
use Rattle.std.specs.Prelude.{All, Contains}
use Rattle.std.proofs.lemmas.Bool.{cases_eq}
use Rattle.std.proofs.lemmas.List.Elements.{All-push, Contains-append_left, Contains-push}
use Rattle.rcpsp_model.specs.Project.{Project, job_count, Before, IsJob, IsAcyclic}
use Rattle.window_refuter.specs.declared.step.BoundStep.{BoundStep}
use Rattle.window_refuter.specs.declared.step.BoundStep.TheVariants.{Head, Tail, Disjoint}
use Rattle.window_refuter.specs.Narrowing.{IsGrounded}
use Rattle.window_refuter.specs.Candidates.{HasConflict, AreNarrowingSteps, Extends, HasStepsOf}

pub extends_itself : (P : Project) (old new : List BoundStep) → new ≡ old → Extends P old new
extends_itself P old new same = record { kept = λ s c. subst (λ (xs : List BoundStep). Contains xs s) (sym same) c; grounded = λ g. subst (All (IsGrounded P)) (sym same) g }

pub extends-then : (P : Project) (a b c : List BoundStep) → Extends P a b → Extends P b c → Extends P a c
extends-then P a b c one two = record { kept = λ s i. two.kept s (one.kept s i); grounded = λ g. two.grounded (one.grounded g) }

pub extends-push : (P : Project) (old new : List BoundStep) (step : BoundStep) → new ≡ old ++ step ∷ [] → IsGrounded P step → Extends P old new
extends-push P old new step same grounded = record {
  kept = λ s c. subst (λ (xs : List BoundStep). Contains xs s) (sym same) (Contains-append_left old (step ∷ []) s c);
  grounded = λ g. subst (All (IsGrounded P)) (sym same) (All-push (IsGrounded P) old step g grounded);
}

pub pushed-has : (old new : List BoundStep) (step : BoundStep) → new ≡ old ++ step ∷ [] → Contains new step
pushed-has old new step same = subst (λ (xs : List BoundStep). Contains xs step) (sym same) (Contains-push old step)

-- what more steps still have
pub conflict-kept : (P : Project) (a b : List BoundStep) (i j : ℕ) → Extends P a b → HasConflict a i j → HasConflict b i j
conflict-kept P a b i j e h = (h.0, e.kept (Disjoint i j h.0) h.1)

pub steps-kept : (P : Project) (a b : List BoundStep) (i j : ℕ) → Extends P a b → HasStepsOf P a i j → HasStepsOf P b i j
steps-kept P a b i j e h = record {
  head = λ before. e.kept (Head i j) (h.head before);
  tail = λ before. e.kept (Tail j (job_count P + 1 - i)) (h.tail before);
  conflict = λ k c. conflict-kept P a b i j e (h.conflict k c);
}

-- one job more
pub steps-next : (P : Project) (a b : List BoundStep) (i n : ℕ) → Extends P a b → ((j : ℕ) → 1 ≤ j → j ≤ n → HasStepsOf P a i j) → HasStepsOf P b i (n + 1) → (j : ℕ) → 1 ≤ j → j ≤ n + 1 → HasStepsOf P b i j
steps-next P a b i n e old new j low high = elim (cases_eq j (n + 1)) [
  | inl same ↦ subst (HasStepsOf P b i) (sym same) new
  | inr other ↦ steps-kept P a b i j e (old j low (omega arith))
]

pub all-next : (P : Project) (a b : List BoundStep) (n : ℕ) → Extends P a b → ((i j : ℕ) → 1 ≤ i → i ≤ n → IsJob P j → HasStepsOf P a i j) → ((j : ℕ) → IsJob P j → HasStepsOf P b (n + 1) j) →
    (i j : ℕ) → 1 ≤ i → i ≤ n + 1 → IsJob P j → HasStepsOf P b i j
all-next P a b n e old new i j low high job = elim (cases_eq i (n + 1)) [
  | inl same ↦ subst (λ (k : ℕ). HasStepsOf P b k j) (sym same) (new j job)
  | inr other ↦ steps-kept P a b i j e (old i j low (omega arith) job)
]

-- the steps of all jobs are all
pub all-steps : (P : Project) (steps : List BoundStep) → IsAcyclic P → All (IsGrounded P) steps → ((i j : ℕ) → IsJob P i → IsJob P j → HasStepsOf P steps i j) → AreNarrowingSteps P steps
all-steps P steps acyclic grounded has = record {
  grounded = grounded;
  heads = λ i j before. let are = acyclic.jobs i j before in (has i j are.0 are.1).head before;
  tails = λ i j before.
      let are = acyclic.jobs i j before in
      let low = are.1.0 in
      let high = are.1.1 in
      let same : job_count P + 1 - (job_count P + 1 - j) ≡ j = omega arith in
      let own = (has (job_count P + 1 - j) i (omega arith, omega arith) are.0).tail (subst (λ (n : ℕ). Before P i n) (sym same) before) in
      subst (λ (n : ℕ). Contains steps (Tail i n)) same own;
  conflicts = λ i j k c. (has i j c.first c.second).conflict k c;
}
