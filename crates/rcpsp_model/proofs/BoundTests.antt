-- Tests that compute leaves, bounds and dominance, on a project that is given with a longest chain from each job, and what
-- they show.
use Rattle.std.proofs.Common.{◌≡◌, ℕ, zero, suc, ◌+◌, ◌-◌, ◌≤◌, ◌⊎◌, max, min, inl, inr, arith, refl, sym, ap, ◌∙◌, subst, List, [], ◌∷◌, Bool, true, false, cond, eqb, leb, ltb, ◌&&◌, ◌||◌, not}
use Rattle.std.specs.Prelude.{sum_by}
use Rattle.std.proofs.lemmas.Bool.{and_parts, leb-true, ltb-true, lt-ltb, eqb-true, eq-eqb, or_cases, both_ways, cases_lt, cases_Bool}
use Rattle.std.proofs.lemmas.List.Elements.{All-head}
use Rattle.rcpsp_model.specs.declared.parts.Entry.{Entry}
use Rattle.rcpsp_model.specs.Project.{Project, job_count, jobs, successors_of, is_before, capacity, renewables, nonrenewables, IsJob, IsAcyclic}
use Rattle.rcpsp_model.specs.Schedule.{finish, usage, used, end_of, cap, calm}
use Rattle.rcpsp_model.specs.Chain.{least_duration, IsChain, IsLeast}
use Rattle.rcpsp_model.specs.Tree.{has_job, last_start, unplaced, IsLeaf}
use Rattle.rcpsp_model.specs.Bounds.{ready, TailValue, of_front, of_chain, IsTailBound, supply, HoldsWork, IsWorkBound, LowerValue, of_tail, of_work, IsLowerBound, rest_work}
use Rattle.rcpsp_model.specs.Dominance.{Dominates}
use Rattle.rcpsp_model.proofs.Lists.{In, In-from_Contains, In-filter, filter-In, sum_by-total}
use Rattle.rcpsp_model.proofs.Entries.{entry_of}
use Rattle.rcpsp_model.proofs.Usage.{usage-past_end}
use Rattle.rcpsp_model.proofs.LeastModes.{numbers-range}
use Rattle.rcpsp_model.proofs.Successors.{before-job, before-any, any-In}
use Rattle.rcpsp_model.proofs.Tests.{all_below, all_below-true, all_to, all_to-true, every, every-In, All-every, implies, implies-true, among, among-true}
use Rattle.rcpsp_model.proofs.TreeTests.{not-true, tails_test, chain-le}
use Rattle.rcpsp_model.proofs.Choices.{In-jobs}
use Rattle.rcpsp_model.proofs.ChildTests.{all_to-from, some_to, some_to-true}

-- Leaves.
abbrev pub leaf_test : Project → List Entry → Bool
leaf_test P F = all_to (has_job F) (job_count P)

pub leaf_test-true : (P : Project) (F : List Entry) → leaf_test P F ≡ true → IsLeaf P F
leaf_test-true P F h j job = all_to-true (has_job F) (job_count P) h j job.0 job.1

pub leaf_test-from : (P : Project) (F : List Entry) → IsLeaf P F → leaf_test P F ≡ true
leaf_test-from P F leaf = all_to-from (has_job F) (job_count P) (λ j low high. leaf j (low, high))

pub not_leaf : (P : Project) (F : List Entry) → not (leaf_test P F) ≡ true → IsLeaf P F → ⊥
not_leaf P F h leaf = both_ways (leaf_test P F) (not-true _ h) (leaf_test-from P F leaf)

-- Tails: by a longest chain behind each job.
abbrev pub Chains : Type 0
Chains = ℕ → List ℕ

abbrev pub tail_by : Project → Chains → ℕ → ℕ
tail_by P chains j = sum_by (least_duration P) (j ∷ chains j)

abbrev pub chain_test : Project → List ℕ → Bool
chain_test P [] = true
chain_test P (j ∷ []) = true
chain_test P (i ∷ j ∷ js) = is_before P i j && chain_test P (j ∷ js)

chain_test-true : (P : Project) (js : List ℕ) → chain_test P js ≡ true → IsChain P js
chain_test-true P [] h = tt
chain_test-true P (j ∷ []) h = tt
chain_test-true P (i ∷ j ∷ js) h = let a = and_parts (is_before P i j) (chain_test P (j ∷ js)) h in (a.0, chain_test-true P (j ∷ js) a.1)

abbrev pub is_open : List Entry → ℕ → Bool
is_open F i = not (has_job F i)

-- the greatest of a number and of those of a list of jobs
abbrev pub greatest_of : (ℕ → ℕ) → ℕ → List ℕ → ℕ
greatest_of f n [] = n
greatest_of f n (j ∷ js) = max (f j) (greatest_of f n js)

greatest-own : (f : ℕ → ℕ) (n : ℕ) (js : List ℕ) → n ≤ greatest_of f n js
greatest-own f n [] = omega arith
greatest-own f n (j ∷ js) = let ih = greatest-own f n js in omega arith

greatest-In : (f : ℕ → ℕ) (n : ℕ) (js : List ℕ) (j : ℕ) → In js j → f j ≤ greatest_of f n js
greatest-In f n [] j i = absurd i
greatest-In f n (k ∷ js) j (inl e) = let same = ap f e in omega arith
greatest-In f n (k ∷ js) j (inr i) = let ih = greatest-In f n js j i in omega arith

-- it is the number, or that of one of the jobs
greatest-is : (f : ℕ → ℕ) (n : ℕ) (js : List ℕ) → (greatest_of f n js ≡ n) ⊎ ((j : ℕ) × In js j × (greatest_of f n js ≡ f j))
greatest-is f n [] = inl refl
greatest-is f n (j ∷ js) = elim (cases_lt (greatest_of f n js) (f j)) [
  | inl more ↦ inr (j, inl refl, (let e : max (f j) (greatest_of f n js) ≡ f j = omega arith in e))
  | inr less ↦
      let same : max (f j) (greatest_of f n js) ≡ greatest_of f n js = omega arith in
      elim (greatest-is f n js) [ inl e ↦ inl (same ∙ e) | inr r ↦ inr (r.0, inr r.1, same ∙ r.2) ]
]

abbrev pub tail_value : Project → Chains → List Entry → ℕ
tail_value P chains F = greatest_of (λ j. ready P F j + tail_by P chains j) (end_of P F) (unplaced P F)

-- the chains are longest, and those behind unplaced jobs are of unplaced jobs
abbrev pub tail_test : Project → Chains → List Entry → Bool
tail_test P chains F = tails_test P (tail_by P chains) && every (λ j. chain_test P (j ∷ chains j) && every (is_open F) (j ∷ chains j)) (unplaced P F)

pub unplaced-In : (P : Project) (F : List Entry) (j : ℕ) → IsJob P j → has_job F j ≡ false → In (unplaced P F) j
unplaced-In P F j job free = filter-In (λ i. not (has_job F i)) (jobs P) j (In-jobs P j job.0 job.1) (ap not free)

tail_test-true : (P : Project) (a : IsAcyclic P) (chains : Chains) (F : List Entry) → tail_test P chains F ≡ true → ((j : ℕ) → In (unplaced P F) j → IsJob P j) → IsTailBound P F (tail_value P chains F)
tail_test-true P a chains F h named =
    let parts = and_parts (tails_test P (tail_by P chains)) (every (λ j. chain_test P (j ∷ chains j) && every (is_open F) (j ∷ chains j)) (unplaced P F)) h in
    record {
      attained = elim (greatest-is (λ j. ready P F j + tail_by P chains j) (end_of P F) (unplaced P F)) [
        | inl e ↦ subst (TailValue P F) (sym e) of_front
        | inr r ↦
            let each = every-In (λ j. chain_test P (j ∷ chains j) && every (is_open F) (j ∷ chains j)) (unplaced P F) parts.1 r.0 r.1 in
            let both = and_parts (chain_test P (r.0 ∷ chains r.0)) _ each in
            subst (TailValue P F) (sym r.2) (of_chain r.0 (chains r.0) (named r.0 r.1) (chain_test-true P (r.0 ∷ chains r.0) both.0)
            (All-every (λ i. has_job F i ≡ false) (is_open F) (r.0 ∷ chains r.0) (λ i t. not-true (has_job F i) t) both.1))
      ];
      greatest = over parts.0;
    }
  where
    over : tails_test P (tail_by P chains) ≡ true → (u : ℕ) → TailValue P F u → u ≤ tail_value P chains F
    over t _ of_front = greatest-own (λ j. ready P F j + tail_by P chains j) (end_of P F) (unplaced P F)
    over t _ (of_chain j js job is free) =
        let sum = sum_by-total (least_duration P) (j ∷ js) in
        let along = chain-le P (tail_by P chains) a t j js job is in
        let up = greatest-In (λ j. ready P F j + tail_by P chains j) (end_of P F) (unplaced P F) j (unplaced-In P F j job (All-head (λ i. has_job F i ≡ false) j js free)) in
        omega arith

-- Work.

-- in how many periods from t on a resource supplies the work, looked for in the first n of them
abbrev periods_for : Project → ℕ → ℕ → ℕ → ℕ → ℕ
periods_for P k t work zero = 0
periods_for P k t work (suc n) = cond (eqb work 0) 0 (suc (periods_for P k (t + 1) (work - cap P k t) n))

-- it supplies the work in no fewer
periods_for-least : (P : Project) (k t work n m : ℕ) → work ≤ supply P k t m → periods_for P k t work n ≤ m
periods_for-least P k t work zero m h = omega arith
periods_for-least P k t work (suc n) zero h =
    let stop = ap (λ (b : Bool). cond b 0 (suc (periods_for P k (t + 1) (work - cap P k t) n))) (eq-eqb work 0 (omega arith)) in omega arith
periods_for-least P k t work (suc n) (suc m) h =
    let by : Bool → ℕ = λ b. cond b 0 (suc (periods_for P k (t + 1) (work - cap P k t) n)) in
    let rest = periods_for-least P k (t + 1) (work - cap P k t) n m (omega arith) in
    elim (cases_Bool (eqb work 0)) [ inl none ↦ let stop = ap by none in omega arith | inr some ↦ let on = ap by some in omega arith ]

abbrev work_periods : Project → List Entry → ℕ → ℕ
work_periods P F k = periods_for P k (last_start F) (rest_work P F k) (calm P + rest_work P F k)

abbrev pub work_value : Project → List Entry → ℕ → ℕ
work_value P F k = min 999999999 (last_start F + work_periods P F k)

abbrev pub work_test : Project → List Entry → ℕ → Bool
work_test P F k = among (renewables P) k && (ltb 0 (capacity P k) && leb (rest_work P F k) (supply P k (last_start F) (work_periods P F k)))

-- where the periods supply the work, their end is the least that holds it
work_end-least : (P : Project) (F : List Entry) (k : ℕ) → rest_work P F k ≤ supply P k (last_start F) (work_periods P F k) → IsLeast (HoldsWork P F k) (last_start F + work_periods P F k)
work_end-least P F k enough =
    let n : (last_start F + work_periods P F k) - last_start F ≡ work_periods P F k = omega arith in
    let all = ap (supply P k (last_start F)) n in
    record {
      attained = record { after_last = omega arith; holds = omega arith };
      least = λ e h.
          let within = periods_for-least P k (last_start F) (rest_work P F k) (calm P + rest_work P F k) (e - last_start F) h.holds in
          let after = h.after_last in omega arith;
    }

pub work_test-true : (P : Project) (F : List Entry) (k : ℕ) → work_test P F k ≡ true → IsWorkBound P F k (work_value P F k)
work_test-true P F k h =
    let a = and_parts (among (renewables P) k) _ h in
    let b = and_parts (ltb 0 (capacity P k)) _ a.1 in
    record {
      renewable = among-true (renewables P) k a.0;
      some = ltb-true _ _ b.0;
      enough = last_start F + work_periods P F k;
      least = work_end-least P F k (leb-true _ _ b.1);
      bound = refl;
    }

-- The lower bound.
abbrev pub lower_test : Project → Chains → List Entry → ℕ → Bool
lower_test P chains F b =
    tail_test P chains F && ((eqb b (tail_value P chains F) || some_to (λ k. work_test P F k && eqb b (work_value P F k)) (renewables P)) &&
    (leb (tail_value P chains F) b && all_to (λ k. implies (ltb 0 (capacity P k)) (work_test P F k && leb (work_value P F k) b)) (renewables P)))

pub unplaced-job : (P : Project) (F : List Entry) (j : ℕ) → In (unplaced P F) j → IsJob P j
unplaced-job P F j i =
    let r = numbers-range 1 (job_count P) j (In-filter (λ k. not (has_job F k)) (jobs P) j i).0 in let high = r.1 in (r.0, omega arith)

pub tail_bound-by : (P : Project) (a : IsAcyclic P) (chains : Chains) (F : List Entry) → tail_test P chains F ≡ true → IsTailBound P F (tail_value P chains F)
tail_bound-by P a chains F h = tail_test-true P a chains F h (unplaced-job P F)

pub lower_test-true : (P : Project) (a : IsAcyclic P) (chains : Chains) (F : List Entry) (b : ℕ) → lower_test P chains F b ≡ true → IsLowerBound P F b
lower_test-true P acyclic chains F b h =
    let Each : ℕ → Bool = λ k. implies (ltb 0 (capacity P k)) (work_test P F k && leb (work_value P F k) b) in
    let Some_ : ℕ → Bool = λ k. work_test P F k && eqb b (work_value P F k) in
    let p = and_parts (tail_test P chains F) _ h in
    let r = and_parts (eqb b (tail_value P chains F) || some_to Some_ (renewables P)) _ p.1 in
    let s = and_parts (leb (tail_value P chains F) b) (all_to Each (renewables P)) r.1 in
    let own = tail_bound-by P acyclic chains F p.0 in
    record {
      attained = elim (or_cases (eqb b (tail_value P chains F)) (some_to Some_ (renewables P)) r.0) [
        | inl e ↦ of_tail b (subst (IsTailBound P F) (sym (eqb-true b _ e)) own)
        | inr w ↦
            let k = some_to-true Some_ (renewables P) w in
            let both = and_parts (work_test P F k.0) _ k.3 in
            of_work k.0 b (subst (IsWorkBound P F k.0) (sym (eqb-true b _ both.1)) (work_test-true P F k.0 both.0))
      ];
      greatest = over own (leb-true _ _ s.0) s.1;
    }
  where
    over : IsTailBound P F (tail_value P chains F) → tail_value P chains F ≤ b → all_to (λ k. implies (ltb 0 (capacity P k)) (work_test P F k && leb (work_value P F k) b)) (renewables P) ≡ true →
        (u : ℕ) → LowerValue P F u → u ≤ b
    over own low all u (of_tail t is) = let up = own.greatest t is.attained in omega arith
    over own low all u (of_work k w is) =
        let each = implies-true (ltb 0 (capacity P k)) _ (all_to-true (λ i. implies (ltb 0 (capacity P i)) (work_test P F i && leb (work_value P F i) b)) (renewables P) all k is.renewable.0 is.renewable.1) (lt-ltb _ _ is.some) in
        let both = and_parts (work_test P F k) (leb (work_value P F k) b) each in
        let made = work_test-true P F k both.0 in
        let first = is.least.least made.enough made.least.attained in
        let bound = is.bound in let value = made.bound in
        let le = leb-true _ _ both.1 in omega arith

-- Dominance.
abbrev pub has_jobs : List Entry → List Entry → Bool
has_jobs A B = every (λ e. has_job A e.job) B

abbrev pub soon_test : Project → List Entry → List Entry → Entry → Entry → Bool
soon_test P A B a b = implies (eqb a.job b.job) (leb (finish P a) (max (finish P b) (last_start B)) || every (has_job A) (successors_of P a.job))

abbrev pub usage_test : Project → List Entry → List Entry → ℕ → Bool
usage_test P A B k = all_below (λ i. leb (usage P A k (last_start B + i)) (usage P B k (last_start B + i))) (end_of P A - last_start B)

abbrev pub dominates_test : Project → List Entry → List Entry → Bool
dominates_test P A B =
    has_jobs A B && (has_jobs B A && (leb (last_start A) (last_start B) && (leb (end_of P A) (end_of P B) && (all_to (λ l. leb (used P A l) (used P B l)) (nonrenewables P) &&
    (all_to (usage_test P A B) (renewables P) && every (λ a. every (soon_test P A B a) B) A)))))

has_jobs-true : (A B : List Entry) (j : ℕ) → has_jobs A B ≡ true → has_job B j ≡ true → has_job A j ≡ true
has_jobs-true A B j h b = let e = entry_of B j b in subst (λ (k : ℕ). has_job A k ≡ true) e.2 (every-In (λ x. has_job A x.job) B h e.0 e.1)

same_bools : (a b : Bool) → (a ≡ true → b ≡ true) → (b ≡ true → a ≡ true) → a ≡ b
same_bools true b f g = sym (f refl)
same_bools false true f g = g refl
same_bools false false f g = refl

usage_test-true : (P : Project) (A B : List Entry) (k t : ℕ) → usage_test P A B k ≡ true → last_start B ≤ t → usage P A k t ≤ usage P B k t
usage_test-true P A B k t h late = elim (cases_lt t (end_of P A)) [
  | inl within ↦
      let at : last_start B + (t - last_start B) ≡ t = omega arith in
      subst (λ (u : ℕ). usage P A k u ≤ usage P B k u) at
      (leb-true _ _ (all_below-true (λ i. leb (usage P A k (last_start B + i)) (usage P B k (last_start B + i))) (end_of P A - last_start B) h (t - last_start B) (omega arith)))
  | inr past ↦ let none = usage-past_end P A k t past in omega arith
]

pub dominates_test-true : (P : Project) (A B : List Entry) → dominates_test P A B ≡ true → Dominates P A B
dominates_test-true P A B h =
    let p = and_parts (has_jobs A B) _ h in
    let q = and_parts (has_jobs B A) _ p.1 in
    let r = and_parts (leb (last_start A) (last_start B)) _ q.1 in
    let s = and_parts (leb (end_of P A) (end_of P B)) _ r.1 in
    let t = and_parts (all_to (λ l. leb (used P A l) (used P B l)) (nonrenewables P)) _ s.1 in
    let u = and_parts (all_to (usage_test P A B) (renewables P)) (every (λ a. every (soon_test P A B a) B) A) t.1 in
    record {
      jobs = λ j. same_bools (has_job A j) (has_job B j) (λ a. has_jobs-true B A j q.0 a) (λ b. has_jobs-true A B j p.0 b);
      last = leb-true _ _ r.0;
      end = leb-true _ _ s.0;
      needs = λ l n. leb-true _ _ (all_to-true (λ i. leb (used P A i) (used P B i)) (nonrenewables P) t.0 l n.0 n.1);
      usage = λ k v n late. usage_test-true P A B k v (all_to-true (usage_test P A B) (renewables P) u.0 k n.0 n.1) late;
      finishes = λ a b j in_a in_b same before free.
          let soon = every-In (soon_test P A B a) B (every-In (λ x. every (soon_test P A B x) B) A u.1 a (In-from_Contains A a in_a)) b (In-from_Contains B b in_b) in
          elim (or_cases (leb (finish P a) (max (finish P b) (last_start B))) _ (implies-true (eqb a.job b.job) _ soon (eq-eqb a.job b.job same))) [
            | inl le ↦ leb-true _ _ le
            | inr all ↦
                let job = before-job P a.job j before in
                absurd (both_ways (has_job A j) free (every-In (has_job A) (successors_of P a.job) all j (any-In (successors_of P a.job) j (sym (before-any P a.job j job.0) ∙ before))))
          ];
    }
