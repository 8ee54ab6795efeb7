-- A schedule in which the jobs of some entries have the placings of these.
use Rattle.std.proofs.Common.{◌≡◌, ℕ, suc, ◌+◌, ◌<◌, ◌≤◌, ◌⊎◌, inl, inr, arith, refl, sym, ap, subst, ◌∙◌, List, [], ◌∷◌, length, Bool, true, false, cond, eqb, ◌||◌}
use Rattle.std.proofs.lemmas.Bool.{cases_Bool, both_ways, or_parts, eqb-true}
use Rattle.rcpsp_model.specs.declared.parts.Entry.{Entry}
use Rattle.rcpsp_model.specs.declared.parts.Placing.{Placing}
use Rattle.rcpsp_model.specs.Schedule.{entries_from}
use Rattle.rcpsp_model.specs.Tree.{has_job}
use Rattle.rcpsp_model.proofs.Changed.{entry}
use Rattle.rcpsp_model.proofs.Lists.{In, total}
use Rattle.rcpsp_model.proofs.Entries.{job-from, DistinctJobs, has_job-In, same_entry, entry_at}

-- the schedule with the placings of A for its jobs
abbrev pub placing_in : List Entry → ℕ → Placing → Placing
placing_in [] i p = p
placing_in (e ∷ A) i p = cond (eqb e.job i) (record { mode = e.mode; start = e.start }) (placing_in A i p)

abbrev pub merged : List Entry → ℕ → List Placing → List Placing
merged A i [] = []
merged A i (p ∷ ps) = placing_in A i p ∷ merged A (i + 1) ps

abbrev with_job : ℕ → Placing → Entry
with_job i p = record { job = i; mode = p.mode; start = p.start }

placing-In : (A : List Entry) (i : ℕ) (p : Placing) → has_job A i ≡ true → In A (with_job i (placing_in A i p))
placing-In [] i p h = cc
placing-In (e ∷ A) i p h =
    elim (cases_Bool (eqb e.job i)) [
      | inl y ↦ inl (ap (λ (k : ℕ). with_job k (record { mode = e.mode; start = e.start })) (eqb-true e.job i y) ∙ ap (λ (b : Bool). with_job i (cond b (record { mode = e.mode; start = e.start }) (placing_in A i p))) (sym y))
      | inr n ↦ inr (subst (λ (b : Bool). In A (with_job i (cond b (record { mode = e.mode; start = e.start }) (placing_in A i p)))) (sym n)
          (placing-In A i p (subst (λ (b : Bool). (b || has_job A i) ≡ true) n h)))
    ]

placing-other : (A : List Entry) (i : ℕ) (p : Placing) → has_job A i ≡ false → placing_in A i p ≡ p
placing-other [] i p h = refl
placing-other (e ∷ A) i p h =
    let r = or_parts (eqb e.job i) (has_job A i) h in
    ap (λ (b : Bool). cond b (record { mode = e.mode; start = e.start }) (placing_in A i p)) r.0 ∙ placing-other A i p r.1

pub length-merged : (A : List Entry) (i : ℕ) (ps : List Placing) → length (merged A i ps) ≡ length ps
length-merged A i [] = refl
length-merged A i (p ∷ ps) = ap suc (length-merged A (i + 1) ps)

pub In-merged : (A : List Entry) (i : ℕ) (ps : List Placing) (x : Entry) → In (entries_from i (merged A i ps)) x → In A x ⊎ ((has_job A x.job ≡ false) × In (entries_from i ps) x)
In-merged A i [] x m = absurd m
In-merged A i (p ∷ ps) x (inl e) =
    elim (cases_Bool (has_job A i)) [
      | inl y ↦ inl (subst (λ (z : Entry). In A z) e (placing-In A i p y))
      | inr n ↦ inr (subst (λ (z : Entry). has_job A z.job ≡ false) e n, inl (ap (with_job i) (sym (placing-other A i p n)) ∙ e))
    ]
In-merged A i (p ∷ ps) x (inr m) = elim (In-merged A (i + 1) ps x m) [ inl a ↦ inl a | inr r ↦ inr (r.0, inr r.1) ]

pub merged-In : (A : List Entry) → DistinctJobs A → (i : ℕ) (ps : List Placing) (e : Entry) → In A e → i ≤ e.job → e.job < i + length ps → In (entries_from i (merged A i ps)) e
merged-In A d i ps e m low high =
    let at = entry_at i (merged A i ps) e.job low (let n = length-merged A i ps in omega arith) in
    elim (In-merged A i ps at.0 at.1) [
      | inl a ↦ subst (λ (z : Entry). In (entries_from i (merged A i ps)) z) (same_entry A d at.0 e a m at.2) at.1
      | inr r ↦ absurd (both_ways _ r.0 (subst (λ (k : ℕ). has_job A k ≡ true) (sym at.2) (has_job-In A e m)))
    ]

-- the other jobs stay
pub total-merged : (h : Entry → ℕ) (A : List Entry) (i : ℕ) (ps : List Placing) →
    total (λ (x : Entry). cond (has_job A x.job) 0 (h x)) (entries_from i (merged A i ps)) ≡ total (λ (x : Entry). cond (has_job A x.job) 0 (h x)) (entries_from i ps)
total-merged h A i [] = refl
total-merged h A i (p ∷ ps) =
    let ih = total-merged h A (i + 1) ps in
    let here : cond (has_job A i) 0 (h (with_job i (placing_in A i p))) ≡ cond (has_job A i) 0 (h (with_job i p)) =
    elim (cases_Bool (has_job A i)) [
      | inl y ↦ ap (λ (b : Bool). cond b 0 (h (with_job i (placing_in A i p)))) y ∙ sym (ap (λ (b : Bool). cond b 0 (h (with_job i p))) y)
      | inr n ↦ ap (λ (q : Placing). cond (has_job A i) 0 (h (with_job i q))) (placing-other A i p n)
    ] in
    omega arith

-- A list of placings is known by its entries.
pub same-placings : (i : ℕ) (r s : List Placing) → length r ≡ length s → ((e : Entry) → In (entries_from i r) e → In (entries_from i s) e) → r ≡ s
same-placings i [] [] n h = refl
same-placings i [] (q ∷ qs) n h = absurd (omega (arith, n))
same-placings i (p ∷ ps) [] n h = absurd (omega (arith, n))
same-placings i (p ∷ ps) (q ∷ qs) n h =
    let head : p ≡ q = elim (h (entry i p) (inl refl)) [
      | inl e ↦ ap placing_of (sym e)
      | inr m ↦ absurd (let late = job-from (i + 1) qs (entry i p) m in omega arith)
    ] in
    let tail : ps ≡ qs = same-placings (i + 1) ps qs (let m : suc (length ps) ≡ suc (length qs) = n in omega arith) (λ e m. elim (h e (inr m)) [
      | inl z ↦ absurd (let late = job-from (i + 1) ps e m in let same = ap (λ (y : Entry). y.job) z in omega arith)
      | inr k ↦ k
    ]) in
    ap (λ (x : Placing). x ∷ ps) head ∙ ap (λ (xs : List Placing). q ∷ xs) tail
  where
    placing_of : Entry → Placing
    placing_of e = record { mode = e.mode; start = e.start }
