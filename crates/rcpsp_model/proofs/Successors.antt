-- Which jobs are before which, by their lists of successors.
use Rattle.std.proofs.Common.{◌≡◌, ℕ, ◌-◌, ◌≤◌, inl, inr, arith, ap, subst, List, [], ◌∷◌, length, get_or, Bool, true, eqb, leb, ◌&&◌}
use Rattle.std.specs.List.{list_any}
use Rattle.std.proofs.lemmas.Bool.{cases_lt, eq-eqb, or_left, or_right, or_cases, eqb-true, and_parts, le-leb, leb-true, false≢true}
use Rattle.std.proofs.lemmas.List.{get_or_past}
use Rattle.rcpsp_model.proofs.Lists.{In}
use Rattle.rcpsp_model.specs.Project.{Activity, Project, no_activity, job_count, successors_of, is_before, Before}

pub any-In : (xs : List ℕ) (j : ℕ) → list_any (λ s. eqb s j) xs ≡ true → In xs j
any-In [] j h = cc
any-In (x ∷ xs) j h = elim (or_cases (eqb x j) (list_any (λ s. eqb s j) xs) h) [ inl e ↦ inl (eqb-true x j e) | inr r ↦ inr (any-In xs j r) ]

pub In-any : (xs : List ℕ) (j : ℕ) → In xs j → list_any (λ s. eqb s j) xs ≡ true
In-any [] j i = absurd i
In-any (x ∷ xs) j (inl e) = or_left (eqb x j) (list_any (λ s. eqb s j) xs) (eq-eqb x j e)
In-any (x ∷ xs) j (inr i) = or_right (eqb x j) (list_any (λ s. eqb s j) xs) (In-any xs j i)

pub before-any : (P : Project) (i j : ℕ) → 1 ≤ i → is_before P i j ≡ list_any (λ s. eqb s j) (successors_of P i)
unfolding is_before
before-any P i j h = ap (λ (b : Bool). b && list_any (λ s. eqb s j) (successors_of P i)) (le-leb 1 i h)

-- What is before a job is a job.
pub before-job : (P : Project) (i j : ℕ) → Before P i j → (1 ≤ i) × (i ≤ job_count P)
unfolding is_before successors_of job_count
before-job P i j b =
    let parts = and_parts (leb 1 i) (list_any (λ s. eqb s j) (get_or P.activities (i - 1) no_activity).successors) b in
    let low = leb-true 1 i parts.0 in
    elim (cases_lt (length P.activities) i) [
      | inr few ↦ (low, few)
      | inl past ↦
          let none : get_or P.activities (i - 1) no_activity ≡ no_activity = get_or_past P.activities (i - 1) no_activity (omega arith) in
          absurd (false≢true (subst (λ (a : Activity). list_any (λ s. eqb s j) a.successors ≡ true) none parts.1))
    ]
