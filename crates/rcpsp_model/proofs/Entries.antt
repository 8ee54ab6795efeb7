-- Entries of distinct jobs: a whole is a front and the entries of the other jobs.
use Rattle.std.proofs.Common.{◌≡◌, ℕ, suc, ◌+◌, ◌<◌, ◌≤◌, inl, inr, arith, refl, sym, ap, subst, ◌∙◌, List, [], ◌∷◌, ◌++◌, Bool, true, false, cond, eqb, ◌||◌, length}
use Rattle.std.proofs.lemmas.Bool.{eqb-true, eq-eqb, ne_eqb, both_ways, cases_Bool, cases_eq, or_cases, or_parts, or_from, eqb-false, or_left, or_right}
use Rattle.rcpsp_model.specs.declared.parts.Entry.{Entry}
use Rattle.rcpsp_model.specs.declared.parts.Placing.{Placing}
use Rattle.rcpsp_model.specs.Schedule.{entries_from}
use Rattle.rcpsp_model.specs.Tree.{has_job}
use Rattle.rcpsp_model.proofs.Lists.{In, total, total-same, total-split}

-- no two entries have one job
abbrev pub DistinctJobs : List Entry → Type 0
DistinctJobs [] = Unit {0}
DistinctJobs (e ∷ es) = (has_job es e.job ≡ false) × DistinctJobs es

-- an entry's job is among the jobs
pub has_job-In : (es : List Entry) (e : Entry) → In es e → has_job es e.job ≡ true
has_job-In [] e i = absurd i
has_job-In (x ∷ xs) e (inl p) = or_left (eqb x.job e.job) (has_job xs e.job) (eq-eqb x.job e.job (ap (λ (y : Entry). y.job) p))
has_job-In (x ∷ xs) e (inr i) = or_right (eqb x.job e.job) (has_job xs e.job) (has_job-In xs e i)

-- a job among the jobs has an entry
pub entry_of : (es : List Entry) (j : ℕ) → has_job es j ≡ true → (e : Entry) × In es e × (e.job ≡ j)
entry_of [] j h = cc
entry_of (x ∷ xs) j h =
    elim (or_cases (eqb x.job j) (has_job xs j) h) [
      | inl p ↦ (x, inl refl, eqb-true x.job j p)
      | inr q ↦ let r = entry_of xs j q in (r.0, inr r.1, r.2)
    ]

-- where the jobs are distinct, an entry is known by its job
pub same_entry : (es : List Entry) → DistinctJobs es → (a b : Entry) → In es a → In es b → a.job ≡ b.job → a ≡ b
same_entry [] d a b i j e = absurd i
same_entry (x ∷ xs) d a b (inl p) (inl q) e = sym p ∙ q
same_entry (x ∷ xs) d a b (inl p) (inr j) e = absurd (both_ways (has_job xs x.job) d.0 (subst (λ (k : ℕ). has_job xs k ≡ true) (sym e ∙ sym (ap (λ (y : Entry). y.job) p)) (has_job-In xs b j)))
same_entry (x ∷ xs) d a b (inr i) (inl q) e = absurd (both_ways (has_job xs x.job) d.0 (subst (λ (k : ℕ). has_job xs k ≡ true) (e ∙ sym (ap (λ (y : Entry). y.job) q)) (has_job-In xs a i)))
same_entry (x ∷ xs) d a b (inr i) (inr j) e = same_entry xs d.1 a b i j e

-- the sum over the entries whose job passes a test
abbrev pub part : (ℕ → Bool) → (Entry → ℕ) → List Entry → ℕ
part p h es = total (λ e. cond (p e.job) (h e) 0) es

-- a test that passes one job more takes in that job's entry
pub part-more : (p : ℕ → Bool) (h : Entry → ℕ) (es : List Entry) (e : Entry) → DistinctJobs es → In es e → p e.job ≡ false →
    part (λ j. eqb e.job j || p j) h es ≡ h e + part p h es
part-more p h [] e d i f = absurd i
part-more p h (x ∷ xs) e d (inl q) f =
    let hx : has_job xs e.job ≡ false = subst (λ (y : Entry). has_job xs y.job ≡ false) q d.0 in
    let here : cond (eqb e.job x.job || p x.job) (h x) 0 ≡ h e =
    subst (λ (y : Entry). cond (eqb e.job y.job || p y.job) (h y) 0 ≡ h e) (sym q)
    (ap (λ (b : Bool). cond b (h e) 0) (or_left (eqb e.job e.job) (p e.job) (eq-eqb e.job e.job refl))) in
    let none : cond (p x.job) (h x) 0 ≡ 0 = subst (λ (y : Entry). cond (p y.job) (h y) 0 ≡ 0) (sym q) (ap (λ (b : Bool). cond b (h e) 0) f) in
    let others : part (λ j. eqb e.job j || p j) h xs ≡ part p h xs = total-same _ _ xs (λ y i.
    ap (λ (b : Bool). cond (b || p y.job) (h y) 0) (ne_eqb e.job y.job (λ w. both_ways (has_job xs e.job) hx (subst (λ (k : ℕ). has_job xs k ≡ true) (sym w) (has_job-In xs y i))))) in
    omega arith
part-more p h (x ∷ xs) e d (inr i) f =
    let ih = part-more p h xs e d.1 i f in
    let here : cond (eqb e.job x.job || p x.job) (h x) 0 ≡ cond (p x.job) (h x) 0 =
    ap (λ (b : Bool). cond (b || p x.job) (h x) 0) (ne_eqb e.job x.job (λ w. both_ways (has_job xs x.job) d.0 (subst (λ (k : ℕ). has_job xs k ≡ true) w (has_job-In xs e i)))) in
    omega arith

-- a sum over a list is the sum over some of its entries and over those of the other jobs
pub total-part : (h : Entry → ℕ) (es F : List Entry) → DistinctJobs es → DistinctJobs F → ((e : Entry) → In F e → In es e) →
    part (has_job F) h es ≡ total h F
total-part h es [] d f sub = zeros es
  where
    zeros : (xs : List Entry) → total (λ e. cond false (h e) 0) xs ≡ 0
    zeros [] = refl
    zeros (x ∷ xs) = omega (arith, zeros xs)
total-part h es (e ∷ F) d f sub =
    let ih = total-part h es F d f.1 (λ x i. sub x (inr i)) in
    let more = part-more (has_job F) h es e d (sub e (inl refl)) f.0 in
    omega arith

pub total-others : (h : Entry → ℕ) (es F : List Entry) → DistinctJobs es → DistinctJobs F → ((e : Entry) → In F e → In es e) →
    total h es ≡ total h F + total (λ e. cond (has_job F e.job) 0 (h e)) es
total-others h es F d f sub =
    let a = total-split h (λ (e : Entry). has_job F e.job) es in
    let b = total-part h es F d f sub in
    omega arith

-- the entries of a schedule have distinct jobs, from the first number on
pub job-from : (i : ℕ) (ps : List Placing) (e : Entry) → In (entries_from i ps) e → i ≤ e.job
job-from i [] e m = absurd m
job-from i (p ∷ ps) e (inl q) = omega (arith, ap (λ (y : Entry). y.job) q)
job-from i (p ∷ ps) e (inr m) = omega (arith, job-from (i + 1) ps e m)

pub entries-distinct : (i : ℕ) (ps : List Placing) → DistinctJobs (entries_from i ps)
entries-distinct i [] = tt
entries-distinct i (p ∷ ps) = (not_there, entries-distinct (i + 1) ps)
  where
    not_there : has_job (entries_from (i + 1) ps) i ≡ false
    not_there = elim (cases_Bool (has_job (entries_from (i + 1) ps) i)) [
      | inl h ↦ let r = entry_of (entries_from (i + 1) ps) i h in absurd (omega (arith, job-from (i + 1) ps r.0 r.1, r.2))
      | inr h ↦ h
    ]

-- each job from the first number on has an entry
pub entry_at : (i : ℕ) (ps : List Placing) (j : ℕ) → i ≤ j → j < i + length ps → (e : Entry) × In (entries_from i ps) e × (e.job ≡ j)
entry_at i [] j a b = absurd (let z : j < i + 0 = b in omega arith)
entry_at i (p ∷ ps) j a b =
    elim (cases_eq i j) [
      | inl w ↦ (record { job = i; mode = p.mode; start = p.start }, inl refl, w)
      | inr ne ↦ let r = entry_at (i + 1) ps j (omega arith) (let z : j < i + suc (length ps) = b in omega arith) in (r.0, inr r.1, r.2)
    ]

pub job-below : (i : ℕ) (ps : List Placing) (e : Entry) → In (entries_from i ps) e → e.job < i + length ps
job-below i [] e m = absurd m
job-below i (p ∷ ps) e (inl q) = let same = ap (λ (y : Entry). y.job) q in let z : e.job < i + suc (length ps) = omega arith in z
job-below i (p ∷ ps) e (inr m) = let ih = job-below (i + 1) ps e m in let z : e.job < i + suc (length ps) = omega arith in z

-- the jobs of a longer list
pub has_job-push_false : (F : List Entry) (e : Entry) (j : ℕ) → has_job (F ++ e ∷ []) j ≡ false → (has_job F j ≡ false) × (eqb e.job j ≡ false)
has_job-push_false [] e j h = (refl, (or_parts (eqb e.job j) false h).0)
has_job-push_false (x ∷ F) e j h =
    let p = or_parts (eqb x.job j) (has_job (F ++ e ∷ []) j) h in let q = has_job-push_false F e j p.1 in
    (or_from (eqb x.job j) (has_job F j) p.0 q.0, q.1)

pub has_job-push_none : (F : List Entry) (e : Entry) (j : ℕ) → has_job F j ≡ false → eqb e.job j ≡ false → has_job (F ++ e ∷ []) j ≡ false
has_job-push_none [] e j h n = or_from (eqb e.job j) false n refl
has_job-push_none (x ∷ F) e j h n =
    let p = or_parts (eqb x.job j) (has_job F j) h in or_from (eqb x.job j) (has_job (F ++ e ∷ []) j) p.0 (has_job-push_none F e j p.1 n)

pub distinct-push : (F : List Entry) (e : Entry) → DistinctJobs F → has_job F e.job ≡ false → DistinctJobs (F ++ e ∷ [])
distinct-push [] e d h = (refl, tt)
distinct-push (x ∷ F) e d h =
    let p = or_parts (eqb x.job e.job) (has_job F e.job) h in
    (has_job-push_none F e x.job d.0 (ne_eqb e.job x.job (λ w. eqb-false x.job e.job p.0 (sym w))), distinct-push F e d.1 p.1)
