-- What entries take of a renewable resource in a period, as a sum of loads; and where a job can start.
use Rattle.std.proofs.Common.{◌≡◌, ℕ, ◌+◌, ◌<◌, ◌≤◌, inl, inr, arith, refl, ap, subst, List, [], ◌∷◌, length, Bool, cond, ltb, leb}
use Rattle.std.proofs.lemmas.Bool.{and_from, and_left, and_right, le-leb, lt-leb, lt-ltb, le-ltb}
use Rattle.rcpsp_model.specs.declared.parts.Entry.{Entry}
use Rattle.rcpsp_model.specs.Project.{Project, duration, request, IsRenewable, is_before, Before}
use Rattle.rcpsp_model.specs.Schedule.{cap, finish, is_active, usage, end_of}
use Rattle.rcpsp_model.specs.Tree.{Fits, CanStart, last_start}
use Rattle.rcpsp_model.proofs.Lists.{In, total, total-zero, sum_by-filter, In-All, All-from_In}
use Rattle.rcpsp_model.proofs.Numbers.{Decided, le_decided, lt_decided, below_decided, both_decided, implies_decided, true_decided}

-- what one entry takes of a resource in a period
abbrev pub load : Project → ℕ → ℕ → Entry → ℕ
load P k t e = cond (is_active P t e) (request P e.job e.mode k) 0

pub usage-total : (P : Project) (es : List Entry) (k t : ℕ) → usage P es k t ≡ total (load P k t) es
usage-total P es k t = sum_by-filter (λ (e : Entry). request P e.job e.mode k) (is_active P t) es

pub load-active : (P : Project) (k t : ℕ) (e : Entry) → e.start ≤ t → t < finish P e → load P k t e ≡ request P e.job e.mode k
load-active P k t e a b = ap (λ (c : Bool). cond c (request P e.job e.mode k) 0) (and_from _ _ (le-leb e.start t a) (lt-ltb t (finish P e) b))

pub load-before : (P : Project) (k t : ℕ) (e : Entry) → t < e.start → load P k t e ≡ 0
load-before P k t e a = ap (λ (c : Bool). cond c (request P e.job e.mode k) 0) (and_left _ (ltb t (finish P e)) (lt-leb e.start t a))

pub load-after : (P : Project) (k t : ℕ) (e : Entry) → finish P e ≤ t → load P k t e ≡ 0
load-after P k t e a = ap (λ (c : Bool). cond c (request P e.job e.mode k) 0) (and_right (leb e.start t) _ (le-ltb t (finish P e) a))

pub finish-le-end : (P : Project) (es : List Entry) (e : Entry) → In es e → finish P e ≤ end_of P es
finish-le-end P [] e i = absurd i
finish-le-end P (x ∷ xs) e (inl q) = let same = ap (finish P) q in omega arith
finish-le-end P (x ∷ xs) e (inr i) = let ih = finish-le-end P xs e i in omega arith

pub end-le : (P : Project) (es : List Entry) (n : ℕ) → ((e : Entry) → In es e → finish P e ≤ n) → end_of P es ≤ n
end-le P [] n h = omega arith
end-le P (x ∷ xs) n h = let here = h x (inl refl) in let ih = end-le P xs n (λ e i. h e (inr i)) in omega arith

-- one resource and one period of `Fits`
abbrev FitsAt : Project → List Entry → ℕ → ℕ → ℕ → ℕ → ℕ → Type 0
FitsAt P es j m t k u = IsRenewable P k → t ≤ u → u < t + duration P j m → usage P es k u + request P j m k ≤ cap P k u

fits_at_decided : (P : Project) (es : List Entry) (j m t k u : ℕ) → Decided (FitsAt P es j m t k u)
fits_at_decided P es j m t k u =
    implies_decided (both_decided (le_decided 1 k) (le_decided k (length P.capacities)))
    (implies_decided (le_decided t u) (implies_decided (lt_decided u (t + duration P j m)) (le_decided _ _)))

pub fits_decided : (P : Project) (es : List Entry) (j m t : ℕ) → Decided (Fits P es j m t)
fits_decided P es j m t =
    let Each : ℕ → Type 0 = λ k. (u : ℕ) → u < t + duration P j m → FitsAt P es j m t k u in
    elim (below_decided Each (λ k. below_decided (FitsAt P es j m t k) (fits_at_decided P es j m t k) (t + duration P j m)) (length P.capacities + 1)) [
      | inl all ↦ inl (λ k u (r : IsRenewable P k) low high. all k (let z = r.1 in omega arith) u high r low high)
      | inr fails ↦ inr (λ f. fails (λ k h u high r low high2. f k u r low high))
    ]

pub preds_decided : (P : Project) (F : List Entry) (j t : ℕ) → Decided ((x : Entry) → In F x → Before P x.job j → finish P x ≤ t)
preds_decided P [] j t = inl (λ x i. absurd i)
preds_decided P (y ∷ F) j t =
    elim (both_decided (implies_decided (true_decided (is_before P y.job j)) (le_decided (finish P y) t)) (preds_decided P F j t)) [
      | inl both ↦ inl (λ x (i : In (y ∷ F) x). elim i [ inl e ↦ subst (λ (z : Entry). Before P z.job j → finish P z ≤ t) e both.0 | inr k ↦ both.1 x k ])
      | inr fails ↦ inr (λ f. fails (f y (inl refl), λ x i. f x (inr i)))
    ]

pub can_start_decided : (P : Project) (F : List Entry) (j m t : ℕ) → Decided (CanStart P F j m t)
can_start_decided P F j m t =
    elim (both_decided (le_decided (last_start F) t) (both_decided (preds_decided P F j t) (fits_decided P F j m t))) [
      | inl h ↦ inl (record { after_last = h.0; after_preds = All-from_In (λ (x : Entry). Before P x.job j → finish P x ≤ t) F h.1.0; fits = h.1.1 })
      | inr fails ↦ inr (λ c. fails (c.after_last, (In-All (λ (x : Entry). Before P x.job j → finish P x ≤ t) F c.after_preds, c.fits)))
    ]

-- from the end on nothing is used
pub usage-past_end : (P : Project) (es : List Entry) (k t : ℕ) → end_of P es ≤ t → usage P es k t ≡ 0
usage-past_end P es k t h =
    let sum = usage-total P es k t in
    let none = total-zero (load P k t) es (λ e i. load-after P k t e (let f = finish-le-end P es e i in omega arith)) in
    omega arith
