-- Each job has one rank.
use Rattle.std.proofs.Common.{◌≡◌, ℕ, zero, suc, ◌+◌, ◌<◌, ◌≤◌, inl, inr, arith, refl, sym, ap, subst, List, [], ◌∷◌, ◌++◌, length, Bool, true, false, cond}
use Rattle.std.proofs.lemmas.Bool.{both_ways, cases_Bool, cases_eq, false≢true}
use Rattle.rcpsp_model.specs.Project.{Project, job_count, jobs, is_before, Before, IsJob, IsAcyclic}
use Rattle.rcpsp_model.specs.Tree.{InTurn}
use Rattle.rcpsp_model.specs.Rank.{is_among, HasPredecessors, IsLowestFree, IsLowestFirst, IsRank}
use Rattle.rcpsp_model.specs.Laws.{RankLaw}
use Rattle.rcpsp_model.proofs.Lists.{In-push_old, In-push_new, In-push, total, IsFirst, first_failing}
use Rattle.rcpsp_model.proofs.Numbers.{Decided, le_decided, below_decided, least_of, both_decided, implies_decided, true_decided, false_decided}
use Rattle.rcpsp_model.proofs.Successors.{any-In, In-any, before-job}
use Rattle.rcpsp_model.proofs.LeastModes.{numbers-In, numbers-range, total-lt}
use Rattle.rcpsp_model.proofs.RootAndLeaves.{in_turn-push}

-- the job that comes next after those that are taken
abbrev TakesLowest : Project → List ℕ → ℕ → Type 0
TakesLowest P taken j = IsLowestFree P (is_among taken) j

among-push : (F : List ℕ) (i j : ℕ) → is_among F j ≡ true → is_among (F ++ i ∷ []) j ≡ true
among-push F i j h = In-any (F ++ i ∷ []) j (In-push_old F i j (any-In F j h))

among-push_new : (F : List ℕ) (i : ℕ) → is_among (F ++ i ∷ []) i ≡ true
among-push_new F i = In-any (F ++ i ∷ []) i (In-push_new F i)

among-push_other : (F : List ℕ) (i j : ℕ) → is_among F j ≡ false → (i ≡ j → ⊥) → is_among (F ++ i ∷ []) j ≡ false
among-push_other F i j h other = elim (cases_Bool (is_among (F ++ i ∷ []) j)) [
  | inr n ↦ n
  | inl y ↦ elim (In-push F i j (any-In (F ++ i ∷ []) j y)) [ inl m ↦ absurd (both_ways (is_among F j) h (In-any F j m)) | inr e ↦ absurd (other e) ]
]

-- No job has two.

taken-once : (P : Project) (F ys : List ℕ) (j : ℕ) → is_among F j ≡ true → InTurn (TakesLowest P) F (ys ++ j ∷ []) → ⊥
taken-once P F [] j h t = both_ways (is_among F j) t.0.untaken h
taken-once P F (y ∷ ys) j h t = taken-once P (F ++ y ∷ []) ys j (among-push F y j h) t.1

lowest-one : (P : Project) (F : List ℕ) (i j : ℕ) → TakesLowest P F i → TakesLowest P F j → i ≡ j
lowest-one P F i j p q = let up = p.lowest j q.job q.untaken q.preds in let down = q.lowest i p.job p.untaken p.preds in omega arith

same-place : (P : Project) (F xs ys : List ℕ) (j : ℕ) → InTurn (TakesLowest P) F (xs ++ j ∷ []) → InTurn (TakesLowest P) F (ys ++ j ∷ []) → length xs ≡ length ys
same-place P F [] [] j t u = refl
same-place P F [] (y ∷ ys) j t u =
    absurd (taken-once P (F ++ y ∷ []) ys j (subst (λ (k : ℕ). is_among (F ++ y ∷ []) k ≡ true) (lowest-one P F y j u.0 t.0) (among-push_new F y)) u.1)
same-place P F (x ∷ xs) [] j t u =
    absurd (taken-once P (F ++ x ∷ []) xs j (subst (λ (k : ℕ). is_among (F ++ x ∷ []) k ≡ true) (lowest-one P F x j t.0 u.0) (among-push_new F x)) t.1)
same-place P F (x ∷ xs) (y ∷ ys) j t u =
    let same = lowest-one P F y x u.0 t.0 in
    ap suc (same-place P (F ++ x ∷ []) xs ys j t.1 (subst (λ (k : ℕ). InTurn (TakesLowest P) (F ++ k ∷ []) (ys ++ j ∷ [])) same u.1))

-- Each job has one.

-- a job that isn't taken and whose predecessors are
abbrev IsFree : Project → List ℕ → ℕ → Type 0
IsFree P F j = IsJob P j × (is_among F j ≡ false) × HasPredecessors P (is_among F) j

free_decided : (P : Project) (F : List ℕ) (j : ℕ) → Decided (IsFree P F j)
free_decided P F j =
    elim (both_decided (both_decided (le_decided 1 j) (le_decided j (job_count P))) (both_decided (false_decided (is_among F j)) (below_decided (λ i. Before P i j → is_among F i ≡ true) (λ i. implies_decided (true_decided (is_before P i j)) (true_decided (is_among F i))) (job_count P + 1)))) [
      | inl h ↦ inl (h.0, h.1.0, λ i b. h.1.1 i (let r = before-job P i j b in let high = r.1 in omega arith) b)
      | inr no_ ↦ inr (λ e. no_ (e.0, (e.1, λ i _. e.2 i)))
    ]

-- Where a job isn't taken, one is free: the one of the lowest number among those that rise along the pairs.
some_free : (P : Project) → IsAcyclic P → (F : List ℕ) (j : ℕ) → IsJob P j → is_among F j ≡ false → (i : ℕ) × IsFree P F i
some_free P a F j job untaken = elim (first_failing (is_among F) a.rank (λ _. 0) (jobs P)) [
  | inl all ↦ absurd (both_ways (is_among F j) untaken (all j (numbers-In 1 (job_count P) j job.0 (let high = job.1 in omega arith))))
  | inr found ↦ (found.0, (of_range (numbers-range 1 (job_count P) found.0 found.1.member), found.1.fails, λ i b. taken found.0 found.1 i b))
]
  where
    of_range : {j : ℕ} → (1 ≤ j) × (j < 1 + job_count P) → IsJob P j
    of_range r = (r.0, let high = r.1 in omega arith)

    taken : (x : ℕ) → IsFirst (is_among F) a.rank (λ _. 0) (jobs P) x → (i : ℕ) → Before P i x → is_among F i ≡ true
    taken x first i b = elim (cases_Bool (is_among F i)) [
      | inl y ↦ y
      | inr n ↦
          let job_i = (a.jobs i x b).0 in
          let up = a.rises i x b in
          elim (first.first i (numbers-In 1 (job_count P) i job_i.0 (let high = job_i.1 in omega arith)) n) [ inl less ↦ absurd (omega arith) | inr same ↦ let e = same.0 in absurd (omega arith) ]
    ]

lowest_free : (P : Project) → IsAcyclic P → (F : List ℕ) (j : ℕ) → IsJob P j → is_among F j ≡ false → (i : ℕ) × TakesLowest P F i
lowest_free P a F j job untaken =
    let some = some_free P a F j job untaken in
    let least = least_of (IsFree P F) (free_decided P F) some.0 some.1 in
    let own = least.1.attained in
    (least.0, record { job = own.0; untaken = own.1; preds = own.2; lowest = λ i job_i free preds. least.1.least i (job_i, free, preds) })

abbrev pub one_unless : Bool → ℕ
one_unless b = cond b 0 1

-- how many jobs aren't taken
abbrev left : Project → List ℕ → ℕ
left P F = total (λ i. one_unless (is_among F i)) (jobs P)

pub untaken_one : (b : Bool) → one_unless b ≤ 1
untaken_one true = omega arith
untaken_one false = omega arith

pub untaken_none : (b : Bool) → b ≡ true → one_unless b ≡ 0
untaken_none true h = refl
untaken_none false h = absurd (false≢true h)

pub untaken_some : (b : Bool) → b ≡ false → one_unless b ≡ 1
untaken_some true h = absurd (false≢true (sym h))
untaken_some false h = refl

left-push : (P : Project) (F : List ℕ) (i : ℕ) → IsJob P i → is_among F i ≡ false → left P (F ++ i ∷ []) < left P F
left-push P F i job free =
    total-lt (λ j. one_unless (is_among (F ++ i ∷ []) j)) (λ j. one_unless (is_among F j)) (jobs P) i (λ j m. fewer j) (numbers-In 1 (job_count P) i job.0 (let high = job.1 in omega arith)) here
  where
    fewer : (j : ℕ) → one_unless (is_among (F ++ i ∷ []) j) ≤ one_unless (is_among F j)
    fewer j = elim (cases_Bool (is_among F j)) [
      | inl y ↦ let new = untaken_none (is_among (F ++ i ∷ []) j) (among-push F i j y) in omega arith
      | inr n ↦ let old = untaken_some (is_among F j) n in let most = untaken_one (is_among (F ++ i ∷ []) j) in omega arith
    ]

    here : one_unless (is_among (F ++ i ∷ []) i) < one_unless (is_among F i)
    here =
        let new = untaken_none (is_among (F ++ i ∷ []) i) (among-push_new F i) in
        let old = untaken_some (is_among F i) free in
        omega arith

rank-after : (P : Project) → IsAcyclic P → (most : ℕ) (F : List ℕ) (j : ℕ) → IsLowestFirst P F → IsJob P j → is_among F j ≡ false → left P F < most → (r : ℕ) × IsRank P j r
rank-after P a zero F j t job untaken few = absurd (omega arith)
rank-after P a (suc most) F j t job untaken few =
    let next = lowest_free P a F j job untaken in
    let i = next.0 in
    let longer = in_turn-push (TakesLowest P) [] F i t next.1 in
    elim (cases_eq i j) [
      | inl e ↦ (length F + 1, (F, subst (λ (k : ℕ). IsLowestFirst P (F ++ k ∷ [])) e longer, refl))
      | inr other ↦ let fewer = left-push P F i next.1.job next.1.untaken in
          rank-after P a most (F ++ i ∷ []) j longer job (among-push_other F i j untaken other) (omega arith)
    ]

pub rank_law : RankLaw
rank_law P j a job =
    let own = rank-after P a (left P [] + 1) [] j tt job refl (omega arith) in
    record {
      rank = own.0;
      is = own.1;
      only = λ r q. let same = same-place P [] q.0 own.1.0 j q.1 own.1.1 in let one = q.2 in let two = own.1.2 in omega arith;
    }
