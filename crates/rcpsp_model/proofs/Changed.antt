-- A schedule in which one job has another placing.
use Rattle.std.proofs.Common.{◌≡◌, ℕ, suc, ◌+◌, ◌<◌, ◌≤◌, ◌⊎◌, inl, inr, arith, refl, sym, ap, ◌∙◌, List, [], ◌∷◌, length, Bool, false, cond, eqb}
use Rattle.std.proofs.lemmas.Bool.{eqb-true, eqb-false, eq-eqb, ne_eqb, cases_Bool}
use Rattle.rcpsp_model.specs.declared.parts.Entry.{Entry}
use Rattle.rcpsp_model.specs.declared.parts.Placing.{Placing}
use Rattle.rcpsp_model.specs.Schedule.{entries_from}
use Rattle.rcpsp_model.proofs.Lists.{In, total}
use Rattle.rcpsp_model.proofs.Entries.{job-from}

-- the schedule with another placing for job j, where the list begins at job i
abbrev pub changed : ℕ → Placing → ℕ → List Placing → List Placing
changed j p i [] = []
changed j p i (q ∷ qs) = cond (eqb i j) p q ∷ changed j p (i + 1) qs

pub length-changed : (j : ℕ) (p : Placing) (i : ℕ) (qs : List Placing) → length (changed j p i qs) ≡ length qs
length-changed j p i [] = refl
length-changed j p i (q ∷ qs) = ap suc (length-changed j p (i + 1) qs)

-- past its job nothing changes
pub changed-past : (j : ℕ) (p : Placing) (i : ℕ) (qs : List Placing) → j < i → changed j p i qs ≡ qs
changed-past j p i [] h = refl
changed-past j p i (q ∷ qs) h =
    let ih : changed j p (i + 1) qs ≡ qs = changed-past j p (i + 1) qs (omega arith) in
    let ne : eqb i j ≡ false = ne_eqb i j (λ w. omega arith) in
    ap (λ (b : Bool). cond b p q ∷ changed j p (i + 1) qs) ne ∙ ap (λ (r : List Placing). q ∷ r) ih

abbrev pub entry : ℕ → Placing → Entry
entry j p = record { job = j; mode = p.mode; start = p.start }

-- each entry after the change is the new one, or one of another job from before
pub In-changed : (j : ℕ) (p : Placing) (i : ℕ) (qs : List Placing) (x : Entry) → In (entries_from i (changed j p i qs)) x →
    (x ≡ entry j p) ⊎ (In (entries_from i qs) x × (x.job ≡ j → ⊥))
In-changed j p i [] x m = absurd m
In-changed j p i (q ∷ qs) x (inl e) =
    elim (cases_Bool (eqb i j)) [
      | inl yes_ ↦ inl (sym e ∙ ap (λ (b : Bool). entry i (cond b p q)) yes_ ∙ ap (λ (k : ℕ). entry k p) (eqb-true i j yes_))
      | inr no_ ↦ let is : entry i q ≡ x = ap (λ (b : Bool). entry i (cond b p q)) (sym no_) ∙ e in
          inr (inl is, λ w. eqb-false i j no_ (ap (λ (y : Entry). y.job) is ∙ w))
    ]
In-changed j p i (q ∷ qs) x (inr m) =
    elim (In-changed j p (i + 1) qs x m) [ inl e ↦ inl e | inr r ↦ inr (inr r.0, r.1) ]

-- the entries of other jobs stay
pub In-changed_other : (j : ℕ) (p : Placing) (i : ℕ) (qs : List Placing) (x : Entry) → In (entries_from i qs) x → (x.job ≡ j → ⊥) →
    In (entries_from i (changed j p i qs)) x
In-changed_other j p i [] x m ne = absurd m
In-changed_other j p i (q ∷ qs) x (inl e) ne =
    inl (ap (λ (b : Bool). entry i (cond b p q)) (ne_eqb i j (λ w. ne (sym (ap (λ (y : Entry). y.job) e) ∙ w))) ∙ e)
In-changed_other j p i (q ∷ qs) x (inr m) ne = inr (In-changed_other j p (i + 1) qs x m ne)

-- the new entry is there
pub In-changed_new : (j : ℕ) (p : Placing) (i : ℕ) (qs : List Placing) (e : Entry) → In (entries_from i qs) e → e.job ≡ j →
    In (entries_from i (changed j p i qs)) (entry j p)
In-changed_new j p i [] e m w = absurd m
In-changed_new j p i (q ∷ qs) e (inl is) w =
    let ij : i ≡ j = ap (λ (y : Entry). y.job) is ∙ w in
    inl (ap (λ (b : Bool). entry i (cond b p q)) (eq-eqb i j ij) ∙ ap (λ (k : ℕ). entry k p) ij)
In-changed_new j p i (q ∷ qs) e (inr m) w = inr (In-changed_new j p (i + 1) qs e m w)

-- a sum loses the old entry and gains the new one
pub total-changed : (h : Entry → ℕ) (j : ℕ) (p : Placing) (i : ℕ) (qs : List Placing) (e : Entry) → In (entries_from i qs) e → e.job ≡ j →
    total h (entries_from i (changed j p i qs)) + h e ≡ total h (entries_from i qs) + h (entry j p)
total-changed h j p i [] e m w = absurd m
total-changed h j p i (q ∷ qs) e (inl is) w =
    let ij : i ≡ j = ap (λ (y : Entry). y.job) is ∙ w in
    let here : h (entry i (cond (eqb i j) p q)) ≡ h (entry j p) =
    ap (λ (b : Bool). h (entry i (cond b p q))) (eq-eqb i j ij) ∙ ap (λ (k : ℕ). h (entry k p)) ij in
    let past : total h (entries_from (i + 1) (changed j p (i + 1) qs)) ≡ total h (entries_from (i + 1) qs) =
    ap (λ (r : List Placing). total h (entries_from (i + 1) r)) (changed-past j p (i + 1) qs (omega arith)) in
    let old : h (entry i q) ≡ h e = ap h is in
    omega arith
total-changed h j p i (q ∷ qs) e (inr m) w =
    let ih = total-changed h j p (i + 1) qs e m w in
    let here : h (entry i (cond (eqb i j) p q)) ≡ h (entry i q) =
    ap (λ (b : Bool). h (entry i (cond b p q))) (ne_eqb i j (λ (v : i ≡ j). let late : i + 1 ≤ e.job = job-from (i + 1) qs e m in omega arith)) in
    omega arith
