-- The least over the modes of a job, and an efficient mode in place of any.
use Rattle.std.proofs.Common.{mul-suc, ◌≡◌, ℕ, zero, suc, ◌+◌, ◌*◌, ◌-◌, ◌<◌, ◌≤◌, ◌⊎◌, inl, inr, arith, refl, sym, ap, List, [], ◌∷◌, length, get_or, Bool, true, false, cond, not}
use Rattle.std.specs.Prelude.{sum_by, slice_index}
use Rattle.std.proofs.lemmas.Bool.{cases_eq}
use Rattle.std.proofs.lemmas.List.Elements.{Contains-get_or}
use Rattle.rcpsp_model.specs.declared.parts.Entry.{Entry}
use Rattle.rcpsp_model.specs.declared.parts.Placing.{Placing}
use Rattle.rcpsp_model.specs.declared.parts.Mode.{Mode}
use Rattle.rcpsp_model.specs.Project.{Project, modes_of, mode_of, no_mode, duration, request, need, job_count, jobs, numbers_from, IsMode, IsRenewable, IsNonrenewable}
use Rattle.rcpsp_model.specs.Schedule.{entries, entries_from}
use Rattle.rcpsp_model.specs.Chain.{least_over}
use Rattle.rcpsp_model.specs.Modes.{time, renewable, nonrenewable, least_need, TakesNoMore, TakesLess, IsInefficientBy, IsEfficient, least_work}
use Rattle.rcpsp_model.specs.Tree.{has_job, unplaced}
use Rattle.rcpsp_model.proofs.Lists.{In, In-from_Contains, total, total-le, total-same, sum_by-filter}
use Rattle.std.proofs.Math.Nat.{mul-le-mul_left}
use Rattle.rcpsp_model.proofs.Numbers.{least_below, Decided, le_decided, lt_decided, below_decided, both_decided, implies_decided, either_decided, some_decided}

pub cond-mono : (b : Bool) {x y : ℕ} → x ≤ y → cond b 0 x ≤ cond b 0 y
cond-mono true h = omega arith
cond-mono false h = h

pub least_over-le : (f : Mode → ℕ) (ms : List Mode) (m : Mode) → In ms m → least_over f ms ≤ f m
least_over-le f [] m i = absurd i
least_over-le f (x ∷ []) m (inl e) = let same = ap f e in omega arith
least_over-le f (x ∷ []) m (inr i) = absurd i
least_over-le f (x ∷ y ∷ ms) m (inl e) = let same = ap f e in omega arith
least_over-le f (x ∷ y ∷ ms) m (inr i) = let ih = least_over-le f (y ∷ ms) m i in omega arith

pub mode-In : (P : Project) (j m : ℕ) → IsMode P j m → In (modes_of P j) (get_or (modes_of P j) (m - 1) no_mode)
mode-In P j m r = In-from_Contains _ _ (Contains-get_or (modes_of P j) (m - 1) no_mode (let low = r.0 in let high = r.1 in omega arith))

pub least_need-le : (P : Project) (j m l : ℕ) → IsMode P j m → least_need P j l ≤ need P j m l
unfolding least_need need mode_of
least_need-le P j m l r = least_over-le (λ (x : Mode). slice_index x.needs (l - 1)) (modes_of P j) _ (mode-In P j m r)

pub least_work-le : (P : Project) (j m k : ℕ) → IsMode P j m → least_work P j k ≤ duration P j m * request P j m k
unfolding least_work duration request mode_of
least_work-le P j m k r = least_over-le (λ (x : Mode). x.duration * slice_index x.requests (k - 1)) (modes_of P j) _ (mode-In P j m r)

-- a sum over the jobs is one over the entries of a schedule
total-jobs : (g : ℕ → ℕ) (i : ℕ) (ps : List Placing) → total g (numbers_from i (length ps)) ≡ total (λ (x : Entry). g x.job) (entries_from i ps)
total-jobs g i [] = refl
total-jobs g i (p ∷ ps) = let ih = total-jobs g (i + 1) ps in omega arith

cond-not : (b : Bool) (x : ℕ) → cond (not b) x 0 ≡ cond b 0 x
cond-not true x = refl
cond-not false x = refl

-- a sum over the jobs that a front lacks is one over the entries of a schedule
pub sum_by-unplaced : (P : Project) (F : List Entry) (s : List Placing) (g : ℕ → ℕ) → length s ≡ job_count P →
    sum_by g (unplaced P F) ≡ total (λ (x : Entry). cond (has_job F x.job) 0 (g x.job)) (entries s)
sum_by-unplaced P F s g w =
    let h : ℕ → ℕ = λ j. cond (not (has_job F j)) (g j) 0 in
    let a = sum_by-filter g (λ j. not (has_job F j)) (jobs P) in
    let b : total h (jobs P) ≡ total h (numbers_from 1 (length s)) = ap (λ n. total h (numbers_from 1 n)) (sym w) in
    let c = total-jobs h 1 s in
    let d = total-same (λ (x : Entry). h x.job) (λ (x : Entry). cond (has_job F x.job) 0 (g x.job)) (entries s) (λ x i. cond-not (has_job F x.job) _) in
    omega arith

pub total-lt : (f g : ℕ → ℕ) (xs : List ℕ) (x : ℕ) → ((y : ℕ) → In xs y → f y ≤ g y) → In xs x → f x < g x → total f xs < total g xs
total-lt f g [] x h i l = absurd i
total-lt f g (y ∷ ys) x h (inl e) l =
    let rest = total-le f g ys (λ z j. h z (inr j)) in let a = ap f e in let b = ap g e in omega arith
total-lt f g (y ∷ ys) x h (inr i) l = let ih = total-lt f g ys x (λ z j. h z (inr j)) i l in let here = h y (inl refl) in omega arith

pub numbers-range : (i n k : ℕ) → In (numbers_from i n) k → (i ≤ k) × (k < i + n)
numbers-range i zero k m = absurd m
numbers-range i (suc n) k (inl e) = (omega arith, omega arith)
numbers-range i (suc n) k (inr m) = let r = numbers-range (i + 1) n k m in (let a = r.0 in omega arith, let b = r.1 in omega arith)

pub numbers-In : (i n k : ℕ) → i ≤ k → k < i + n → In (numbers_from i n) k
numbers-In i zero k a b = absurd (let c : k < i + 0 = b in omega arith)
numbers-In i (suc n) k a b = elim (cases_eq i k) [ inl e ↦ inl e | inr ne ↦ inr (numbers-In (i + 1) n k (omega arith) (let c : k < i + suc n = b in omega arith)) ]

-- all that a mode takes, as one number
abbrev taken : Project → ℕ → ℕ → ℕ
taken P j m = duration P j m + (total (request P j m) (numbers_from 1 (length P.capacities)) + total (need P j m) (numbers_from 1 (length P.budgets)))

taken-falls : (P : Project) (j m n : ℕ) → IsInefficientBy P j m n → (taken P j n < taken P j m) ⊎ ((taken P j n ≤ taken P j m) × (n < m))
taken-falls P j m n b =
    let d = b.no_more.duration in
    let Rs = numbers_from 1 (length P.capacities) in let Ns = numbers_from 1 (length P.budgets) in
    let each_r : (k : ℕ) → In Rs k → request P j n k ≤ request P j m k = λ k i. let r = numbers-range 1 _ k i in b.no_more.requests k (let x = r.0 in omega arith, let x = r.1 in omega arith) in
    let each_n : (l : ℕ) → In Ns l → need P j n l ≤ need P j m l = λ l i. let r = numbers-range 1 _ l i in b.no_more.needs l (let x = r.0 in omega arith, let x = r.1 in omega arith) in
    let rs = total-le (request P j n) (request P j m) Rs each_r in
    let ns = total-le (need P j n) (need P j m) Ns each_n in
    elim b.preferred [
      | inr lower ↦ inr (omega arith, lower)
      | inl less ↦ inl (elim less [
        | time shorter ↦ omega arith
        | renewable k r h ↦ let strict = total-lt (request P j n) (request P j m) Rs k each_r (numbers-In 1 _ k (let x = r.0 in omega arith) (let x = r.1 in omega arith)) h in omega arith
        | nonrenewable l r h ↦ let strict = total-lt (need P j n) (need P j m) Ns l each_n (numbers-In 1 _ l (let x = r.0 in omega arith) (let x = r.1 in omega arith)) h in omega arith
      ])
    ]

pub renewable_decided : (P : Project) (k : ℕ) → Decided (IsRenewable P k)
renewable_decided P k = both_decided (le_decided 1 k) (le_decided k (length P.capacities))

pub nonrenewable_decided : (P : Project) (l : ℕ) → Decided (IsNonrenewable P l)
nonrenewable_decided P l = both_decided (le_decided 1 l) (le_decided l (length P.budgets))

less_decided : (P : Project) (j n m : ℕ) → Decided (TakesLess P j n m)
less_decided P j n m =
    elim (either_decided (lt_decided (duration P j n) (duration P j m)) (either_decided (some_decided Renewable (λ k. both_decided (renewable_decided P k) (lt_decided _ _)) (length P.capacities + 1))
    (some_decided Nonrenewable (λ l. both_decided (nonrenewable_decided P l) (lt_decided _ _)) (length P.budgets + 1)))) [
      | inl e ↦ inl (elim e [ inl h ↦ time h | inr o ↦ elim o [ inl s ↦ renewable s.0 s.2.0 s.2.1 | inr s ↦ nonrenewable s.0 s.2.0 s.2.1 ] ])
      | inr no_ ↦ inr (λ less. no_ (parts less))
    ]
  where
    Renewable : ℕ → Type 0
    Renewable k = IsRenewable P k × (request P j n k < request P j m k)

    Nonrenewable : ℕ → Type 0
    Nonrenewable l = IsNonrenewable P l × (need P j n l < need P j m l)

    parts : TakesLess P j n m → (duration P j n < duration P j m) ⊎ (((k : ℕ) × (k < length P.capacities + 1) × Renewable k) ⊎ ((l : ℕ) × (l < length P.budgets + 1) × Nonrenewable l))
    parts (time h) = inl h
    parts (renewable k r h) = inr (inl (k, (let x = r.1 in omega arith), (r, h)))
    parts (nonrenewable l r h) = inr (inr (l, (let x = r.1 in omega arith), (r, h)))

no_more_decided : (P : Project) (j n m : ℕ) → Decided (TakesNoMore P j n m)
no_more_decided P j n m =
    elim (both_decided (le_decided (duration P j n) (duration P j m)) (both_decided
    (below_decided (λ k. IsRenewable P k → request P j n k ≤ request P j m k) (λ k. implies_decided (renewable_decided P k) (le_decided _ _)) (length P.capacities + 1))
    (below_decided (λ l. IsNonrenewable P l → need P j n l ≤ need P j m l) (λ l. implies_decided (nonrenewable_decided P l) (le_decided _ _)) (length P.budgets + 1)))) [
      | inl h ↦ inl (record { duration = h.0; requests = λ k r. h.1.0 k (let x = r.1 in omega arith) r; needs = λ l r. h.1.1 l (let x = r.1 in omega arith) r })
      | inr no_ ↦ inr (λ t. no_ (t.duration, (λ k _. t.requests k, λ l _. t.needs l)))
    ]

pub inefficient_decided : (P : Project) (j m n : ℕ) → Decided (IsInefficientBy P j m n)
inefficient_decided P j m n =
    elim (both_decided (both_decided (le_decided 1 n) (le_decided n (length (modes_of P j)))) (both_decided (no_more_decided P j n m) (either_decided (less_decided P j n m) (lt_decided n m)))) [
      | inl h ↦ inl (record { mode = h.0; no_more = h.1.0; preferred = h.1.1 })
      | inr no_ ↦ inr (λ b. no_ (b.mode, (b.no_more, b.preferred)))
    ]

no_more-trans : (P : Project) (j a b c : ℕ) → TakesNoMore P j a b → TakesNoMore P j b c → TakesNoMore P j a c
no_more-trans P j a b c p q = record {
  duration = let x = p.duration in let y = q.duration in omega arith;
  requests = λ k r. let x = p.requests k r in let y = q.requests k r in omega arith;
  needs = λ l r. let x = p.needs l r in let y = q.needs l r in omega arith;
}

-- in the order by a first number and then by a second below b
lex-lt : (x y n m b : ℕ) → n < b → (x < y) ⊎ ((x ≤ y) × (n < m)) → b * x + n < b * y + m
lex-lt x y n m b low (inl h) = let p : b * suc x ≤ b * y = mul-le-mul_left b h in let q : b * suc x ≡ b * x + b = mul-suc b x in omega arith
lex-lt x y n m b low (inr h) = let p : b * x ≤ b * y = mul-le-mul_left b h.0 in let q = h.1 in omega arith

efficient_from : (P : Project) (j fuel m : ℕ) → IsMode P j m → (length (modes_of P j) + 1) * taken P j m + m < fuel → (o : ℕ) × IsMode P j o × TakesNoMore P j o m × IsEfficient P j o
efficient_from P j zero m r h = absurd (omega arith)
efficient_from P j (suc fuel) m r h =
    elim (least_below (IsInefficientBy P j m) (inefficient_decided P j m) (length (modes_of P j) + 1)) [
      | inl found ↦
          let n = found.0 in let b = found.2.attained in
          let falls = lex-lt (taken P j n) (taken P j m) n m (length (modes_of P j) + 1) found.1 (taken-falls P j m n b) in
          let best = efficient_from P j fuel n b.mode (omega arith) in
          (best.0, best.1, no_more-trans P j best.0 n m best.2 b.no_more, best.3)
      | inr none ↦ (m, r, record { duration = omega arith; requests = λ k _. omega arith; needs = λ l _. omega arith }, λ n b. none n (let x = b.mode.1 in omega arith) b)
    ]

-- an efficient mode that takes no more than a given one
pub efficient_mode : (P : Project) (j m : ℕ) → IsMode P j m → (o : ℕ) × IsMode P j o × TakesNoMore P j o m × IsEfficient P j o
efficient_mode P j m r = efficient_from P j ((length (modes_of P j) + 1) * taken P j m + m + 1) m r (omega arith)
