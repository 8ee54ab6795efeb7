-- Tests that compute the child of a front by a job in a mode, on a project that is given, and what they show.
use Rattle.std.proofs.Common.{◌≡◌, ℕ, zero, suc, ◌+◌, ◌≤◌, inl, inr, arith, refl, subst, List, [], ◌∷◌, ◌++◌, length, Bool, true, false, eqb, leb, ltb, ◌&&◌, ◌||◌, not}
use Rattle.std.proofs.lemmas.Bool.{and_parts, and_from, leb-true, le-leb, ltb-true, lt-ltb, eqb-true, or_cases, or_left, or_right, both_ways, false≢true, cases_eq, cases_lt}
use Rattle.rcpsp_model.specs.declared.parts.Entry.{Entry}
use Rattle.rcpsp_model.specs.declared.parts.Shut.{Shut as Why}
use Rattle.rcpsp_model.specs.declared.parts.Shut.TheVariants.{NoCapacity, NoBudget, Inefficient}
use Rattle.rcpsp_model.specs.Project.{Project, job_count, modes_of, is_before, duration, request, need, capacity, budget, renewables, nonrenewables, Before}
use Rattle.rcpsp_model.specs.Schedule.{finish, usage, used, cap}
use Rattle.rcpsp_model.specs.Chain.{IsLeast}
use Rattle.rcpsp_model.specs.Modes.{LacksCapacity, IsExecutable, TakesNoMore, TakesLess, time, renewable, nonrenewable, IsInefficientBy, IsEfficient}
use Rattle.rcpsp_model.specs.Tree.{last_start, Fits, CanStart, rest_need, HasGap, LeavesBudgets, entry_at, extended, IsShut, IsPlacedChild}
use Rattle.rcpsp_model.specs.Bounds.{IsBudgetGap}
use Rattle.rcpsp_model.proofs.Lists.{In, In-All}
use Rattle.rcpsp_model.proofs.Tests.{all_below, all_below-true, all_below-from, all_to, all_to-true, every, All-every, implies, implies-true, implies-from, among, among-true, fits_test, fits_test-true}
use Rattle.rcpsp_model.proofs.TreeTests.{not-true}
use Rattle.rcpsp_model.specs.Tree.{is_eligible}
use Rattle.rcpsp_model.proofs.Choices.{eligible_law}

pub all_to-from : (f : ℕ → Bool) (n : ℕ) → ((i : ℕ) → 1 ≤ i → i ≤ n → f i ≡ true) → all_to f n ≡ true
all_to-from f n h = all_below-from (λ i. f (i + 1)) n (λ i low. h (i + 1) (omega arith) (omega arith))

pub every-from : {X : Type 0} (p : X → Bool) (xs : List X) → ((x : X) → In xs x → p x ≡ true) → every p xs ≡ true
every-from p [] h = refl
every-from p (x ∷ xs) h = and_from (p x) (every p xs) (h x (inl refl)) (every-from p xs (λ y i. h y (inr i)))

pub among-from : (n s : ℕ) → 1 ≤ s → s ≤ n → among n s ≡ true
among-from n s low high = and_from (leb 1 s) (leb s n) (le-leb 1 s low) (le-leb s n high)

-- some number from 1 to n passes
abbrev pub some_to : (ℕ → Bool) → ℕ → Bool
some_to f zero = false
some_to f (suc n) = f (suc n) || some_to f n

pub some_to-true : (f : ℕ → Bool) (n : ℕ) → some_to f n ≡ true → (i : ℕ) × (1 ≤ i) × (i ≤ n) × (f i ≡ true)
some_to-true f zero h = absurd (false≢true h)
some_to-true f (suc n) h = elim (or_cases (f (suc n)) (some_to f n) h) [
  | inl here ↦ (suc n, omega arith, omega arith, here)
  | inr later ↦ let r = some_to-true f n later in let low = r.1 in let high = r.2 in (r.0, low, omega arith, r.3)
]

pub some_to-from : (f : ℕ → Bool) (n i : ℕ) → 1 ≤ i → i ≤ n → f i ≡ true → some_to f n ≡ true
some_to-from f zero i low high h = absurd (omega arith)
some_to-from f (suc n) i low high h = elim (cases_eq i (suc n)) [
  | inl e ↦ or_left (f (suc n)) (some_to f n) (subst (λ (k : ℕ). f k ≡ true) e h)
  | inr ne ↦ or_right (f (suc n)) (some_to f n) (some_to-from f n i low (omega arith) h)
]

-- the number passes, and none below it
abbrev pub least_test : (ℕ → Bool) → ℕ → Bool
least_test test k = test k && all_below (λ i. not (test i)) k

pub least_test-true : (Q : ℕ → Type 0) (test : ℕ → Bool) → ((i : ℕ) → test i ≡ true → Q i) → ((i : ℕ) → Q i → test i ≡ true) → (k : ℕ) → least_test test k ≡ true → IsLeast Q k
least_test-true Q test to from k h =
    let a = and_parts (test k) (all_below (λ i. not (test i)) k) h in
    record {
      attained = to k a.0;
      least = λ u q. elim (cases_lt u k) [
        | inl low ↦ absurd (both_ways (test u) (not-true (test u) (all_below-true (λ i. not (test i)) k a.1 u low)) (from u q))
        | inr high ↦ high
      ];
    }

-- Where a job can start.
abbrev pub can_start_test : Project → List Entry → ℕ → ℕ → ℕ → Bool
can_start_test P F j m u = leb (last_start F) u && (every (λ x. implies (is_before P x.job j) (leb (finish P x) u)) F && fits_test P F j m u)

can_start_test-true : (P : Project) (F : List Entry) (j m u : ℕ) → can_start_test P F j m u ≡ true → CanStart P F j m u
can_start_test-true P F j m u h =
    let Done : Entry → Bool = λ x. implies (is_before P x.job j) (leb (finish P x) u) in
    let a = and_parts (leb (last_start F) u) _ h in
    let b = and_parts (every Done F) (fits_test P F j m u) a.1 in
    record {
      after_last = leb-true (last_start F) u a.0;
      after_preds = All-every (λ x. Before P x.job j → finish P x ≤ u) Done F (λ x t before. leb-true _ _ (implies-true (is_before P x.job j) _ t before)) b.0;
      fits = fits_test-true P F j m u b.1;
    }

fits_test-from : (P : Project) (es : List Entry) (j m t : ℕ) → Fits P es j m t → fits_test P es j m t ≡ true
fits_test-from P es j m t fits =
    all_to-from (λ k. all_below (λ i. leb (usage P es k (t + i) + request P j m k) (cap P k (t + i))) (duration P j m)) (renewables P)
    (λ k low high. all_below-from (λ i. leb (usage P es k (t + i) + request P j m k) (cap P k (t + i))) (duration P j m)
    (λ i below_. le-leb _ _ (fits k (t + i) (low, high) (omega arith) (omega arith))))

can_start_test-from : (P : Project) (F : List Entry) (j m u : ℕ) → CanStart P F j m u → can_start_test P F j m u ≡ true
can_start_test-from P F j m u c =
    and_from (leb (last_start F) u) _ (le-leb _ _ c.after_last) (and_from (every (λ x. implies (is_before P x.job j) (leb (finish P x) u)) F) (fits_test P F j m u)
    (every-from (λ x. implies (is_before P x.job j) (leb (finish P x) u)) F (λ x i. implies-from (is_before P x.job j) _ (λ b. le-leb _ _ (In-All (λ y. Before P y.job j → finish P y ≤ u) F c.after_preds x i b))))
    (fits_test-from P F j m u c.fits))

-- Modes.
abbrev pub executable_test : Project → ℕ → ℕ → Bool
executable_test P j m = eqb (duration P j m) 0 || all_to (λ k. leb (request P j m k) (capacity P k)) (renewables P)

executable_test-true : (P : Project) (j m : ℕ) → executable_test P j m ≡ true → IsExecutable P j m
executable_test-true P j m h takes_time k r = elim (or_cases (eqb (duration P j m) 0) (all_to (λ i. leb (request P j m i) (capacity P i)) (renewables P)) h) [
  | inl none ↦ let zero_ = eqb-true (duration P j m) 0 none in absurd (omega arith)
  | inr all ↦ leb-true _ _ (all_to-true (λ i. leb (request P j m i) (capacity P i)) (renewables P) all k r.0 r.1)
]

abbrev pub leaves_test : Project → List Entry → Bool
leaves_test P F = all_to (λ l. leb (used P F l + rest_need P F l) (budget P l)) (nonrenewables P)

pub leaves_test-true : (P : Project) (F : List Entry) → leaves_test P F ≡ true → LeavesBudgets P F
leaves_test-true P F h l r = leb-true _ _ (all_to-true (λ i. leb (used P F i + rest_need P F i) (budget P i)) (nonrenewables P) h l r.0 r.1)

abbrev pub gap_test : Project → List Entry → ℕ → Bool
gap_test P F l = among (nonrenewables P) l && ltb (budget P l) (used P F l + rest_need P F l)

pub gap_test-true : (P : Project) (F : List Entry) (l : ℕ) → gap_test P F l ≡ true → HasGap P F l
gap_test-true P F l h = let a = and_parts (among (nonrenewables P) l) _ h in record { nonrenewable = among-true (nonrenewables P) l a.0; exceeds = ltb-true _ _ a.1 }

pub gap_test-from : (P : Project) (F : List Entry) (l : ℕ) → HasGap P F l → gap_test P F l ≡ true
gap_test-from P F l g = and_from (among (nonrenewables P) l) _ (among-from (nonrenewables P) l g.nonrenewable.0 g.nonrenewable.1) (lt-ltb _ _ g.exceeds)

pub least_gap : (P : Project) (F : List Entry) (l : ℕ) → least_test (gap_test P F) l ≡ true → IsBudgetGap P F l
least_gap P F l h = least_test-true (HasGap P F) (gap_test P F) (gap_test-true P F) (gap_test-from P F) l h

abbrev pub lacks_test : Project → ℕ → ℕ → ℕ → Bool
lacks_test P j m k = among (renewables P) k && (ltb 0 (duration P j m) && ltb (capacity P k) (request P j m k))

lacks_test-true : (P : Project) (j m k : ℕ) → lacks_test P j m k ≡ true → LacksCapacity P j m k
lacks_test-true P j m k h =
    let a = and_parts (among (renewables P) k) _ h in
    let b = and_parts (ltb 0 (duration P j m)) _ a.1 in
    record { renewable = among-true (renewables P) k a.0; takes_time = ltb-true _ _ b.0; lacks = ltb-true _ _ b.1 }

lacks_test-from : (P : Project) (j m k : ℕ) → LacksCapacity P j m k → lacks_test P j m k ≡ true
lacks_test-from P j m k l =
    and_from (among (renewables P) k) _ (among-from (renewables P) k l.renewable.0 l.renewable.1) (and_from (ltb 0 (duration P j m)) _ (lt-ltb _ _ l.takes_time) (lt-ltb _ _ l.lacks))

abbrev pub no_more_test : Project → ℕ → ℕ → ℕ → Bool
no_more_test P j n m =
    leb (duration P j n) (duration P j m) && (all_to (λ k. leb (request P j n k) (request P j m k)) (renewables P) && all_to (λ l. leb (need P j n l) (need P j m l)) (nonrenewables P))

no_more_test-true : (P : Project) (j n m : ℕ) → no_more_test P j n m ≡ true → TakesNoMore P j n m
no_more_test-true P j n m h =
    let a = and_parts (leb (duration P j n) (duration P j m)) _ h in
    let b = and_parts (all_to (λ k. leb (request P j n k) (request P j m k)) (renewables P)) _ a.1 in
    record {
      duration = leb-true _ _ a.0;
      requests = λ k r. leb-true _ _ (all_to-true (λ i. leb (request P j n i) (request P j m i)) (renewables P) b.0 k r.0 r.1);
      needs = λ l r. leb-true _ _ (all_to-true (λ i. leb (need P j n i) (need P j m i)) (nonrenewables P) b.1 l r.0 r.1);
    }

no_more_test-from : (P : Project) (j n m : ℕ) → TakesNoMore P j n m → no_more_test P j n m ≡ true
no_more_test-from P j n m t =
    and_from (leb (duration P j n) (duration P j m)) _ (le-leb _ _ t.duration) (and_from (all_to (λ k. leb (request P j n k) (request P j m k)) (renewables P)) _
    (all_to-from (λ k. leb (request P j n k) (request P j m k)) (renewables P) (λ k low high. le-leb _ _ (t.requests k (low, high))))
    (all_to-from (λ l. leb (need P j n l) (need P j m l)) (nonrenewables P) (λ l low high. le-leb _ _ (t.needs l (low, high)))))

abbrev pub less_test : Project → ℕ → ℕ → ℕ → Bool
less_test P j n m =
    ltb (duration P j n) (duration P j m) || (some_to (λ k. ltb (request P j n k) (request P j m k)) (renewables P) || some_to (λ l. ltb (need P j n l) (need P j m l)) (nonrenewables P))

less_test-true : (P : Project) (j n m : ℕ) → less_test P j n m ≡ true → TakesLess P j n m
less_test-true P j n m h = elim (or_cases (ltb (duration P j n) (duration P j m)) _ h) [
  | inl t ↦ time (ltb-true _ _ t)
  | inr other ↦ elim (or_cases (some_to (λ k. ltb (request P j n k) (request P j m k)) (renewables P)) _ other) [
    | inl r ↦ let x = some_to-true (λ k. ltb (request P j n k) (request P j m k)) (renewables P) r in renewable x.0 (x.1, x.2) (ltb-true _ _ x.3)
    | inr l ↦ let x = some_to-true (λ k. ltb (need P j n k) (need P j m k)) (nonrenewables P) l in nonrenewable x.0 (x.1, x.2) (ltb-true _ _ x.3)
  ]
]

less_test-from : (P : Project) (j n m : ℕ) → TakesLess P j n m → less_test P j n m ≡ true
less_test-from P j n m (time h) = or_left (ltb (duration P j n) (duration P j m)) _ (lt-ltb _ _ h)
less_test-from P j n m (renewable k r h) =
    or_right (ltb (duration P j n) (duration P j m)) _ (or_left (some_to (λ i. ltb (request P j n i) (request P j m i)) (renewables P)) _
    (some_to-from (λ i. ltb (request P j n i) (request P j m i)) (renewables P) k r.0 r.1 (lt-ltb _ _ h)))
less_test-from P j n m (nonrenewable l r h) =
    or_right (ltb (duration P j n) (duration P j m)) _ (or_right (some_to (λ i. ltb (request P j n i) (request P j m i)) (renewables P)) _
    (some_to-from (λ i. ltb (need P j n i) (need P j m i)) (nonrenewables P) l r.0 r.1 (lt-ltb _ _ h)))

abbrev pub inefficient_test : Project → ℕ → ℕ → ℕ → Bool
inefficient_test P j m n = among (length (modes_of P j)) n && (no_more_test P j n m && (less_test P j n m || ltb n m))

inefficient_test-true : (P : Project) (j m n : ℕ) → inefficient_test P j m n ≡ true → IsInefficientBy P j m n
inefficient_test-true P j m n h =
    let a = and_parts (among (length (modes_of P j)) n) _ h in
    let b = and_parts (no_more_test P j n m) _ a.1 in
    record {
      mode = among-true (length (modes_of P j)) n a.0;
      no_more = no_more_test-true P j n m b.0;
      preferred = elim (or_cases (less_test P j n m) (ltb n m) b.1) [ inl l ↦ inl (less_test-true P j n m l) | inr l ↦ inr (ltb-true n m l) ];
    }

inefficient_test-from : (P : Project) (j m n : ℕ) → IsInefficientBy P j m n → inefficient_test P j m n ≡ true
inefficient_test-from P j m n b =
    and_from (among (length (modes_of P j)) n) _ (among-from (length (modes_of P j)) n b.mode.0 b.mode.1) (and_from (no_more_test P j n m) _ (no_more_test-from P j n m b.no_more)
    (elim b.preferred [ inl l ↦ or_left (less_test P j n m) (ltb n m) (less_test-from P j n m l) | inr l ↦ or_right (less_test P j n m) (ltb n m) (lt-ltb n m l) ]))

abbrev pub efficient_test : Project → ℕ → ℕ → Bool
efficient_test P j m = all_to (λ n. not (inefficient_test P j m n)) (length (modes_of P j))

efficient_test-true : (P : Project) (j m : ℕ) → efficient_test P j m ≡ true → IsEfficient P j m
efficient_test-true P j m h n b =
    both_ways (inefficient_test P j m n) (not-true _ (all_to-true (λ i. not (inefficient_test P j m i)) (length (modes_of P j)) h n b.mode.0 b.mode.1)) (inefficient_test-from P j m n b)

-- Children.
abbrev pub placed_test : Project → List Entry → ℕ → ℕ → ℕ → Bool
placed_test P F j m t =
    among (job_count P) j && (is_eligible P F j && (among (length (modes_of P j)) m && (least_test (can_start_test P F j m) t && (executable_test P j m &&
    (leaves_test P (F ++ entry_at j m t ∷ []) && efficient_test P j m)))))

pub placed_test-true : (P : Project) (F : List Entry) (j m t : ℕ) → placed_test P F j m t ≡ true → IsPlacedChild P F (entry_at j m t)
placed_test-true P F j m t h =
    let a = and_parts (among (job_count P) j) _ h in
    let b = and_parts (is_eligible P F j) _ a.1 in
    let c = and_parts (among (length (modes_of P j)) m) _ b.1 in
    let d = and_parts (least_test (can_start_test P F j m) t) _ c.1 in
    let e = and_parts (executable_test P j m) _ d.1 in
    let f = and_parts (leaves_test P (F ++ entry_at j m t ∷ [])) (efficient_test P j m) e.1 in
    let leaves = leaves_test-true P (F ++ entry_at j m t ∷ []) f.0 in
    record {
      follows = record {
        eligible = (eligible_law P F j (among-true (job_count P) j a.0)).0 b.0;
        mode = among-true (length (modes_of P j)) m c.0;
        start = least_test-true (CanStart P F j m) (can_start_test P F j m) (can_start_test-true P F j m) (can_start_test-from P F j m) t d.0;
        budgets = λ l r. let enough = leaves l r in omega arith;
      };
      executable = executable_test-true P j m e.0;
      budgets = leaves;
      efficient = efficient_test-true P j m f.1;
    }

abbrev pub shut_test : Project → List Entry → ℕ → ℕ → Why → Bool
shut_test P F j m (NoCapacity k) = least_test (lacks_test P j m) k
shut_test P F j m (NoBudget l) = executable_test P j m && least_test (gap_test P (extended F j m)) l
shut_test P F j m (Inefficient n) = executable_test P j m && (leaves_test P (extended F j m) && least_test (inefficient_test P j m) n)

pub shut_test-true : (P : Project) (F : List Entry) (j m : ℕ) (why : Why) → shut_test P F j m why ≡ true → IsShut P F j m why
shut_test-true P F j m (NoCapacity k) h = least_test-true (LacksCapacity P j m) (lacks_test P j m) (lacks_test-true P j m) (lacks_test-from P j m) k h
shut_test-true P F j m (NoBudget l) h = let a = and_parts (executable_test P j m) _ h in (executable_test-true P j m a.0, least_gap P (extended F j m) l a.1)
shut_test-true P F j m (Inefficient n) h =
    let a = and_parts (executable_test P j m) _ h in
    let b = and_parts (leaves_test P (extended F j m)) _ a.1 in (
      executable_test-true P j m a.0,
      leaves_test-true P (extended F j m) b.0,
      least_test-true (IsInefficientBy P j m) (inefficient_test P j m) (inefficient_test-true P j m) (inefficient_test-from P j m) n b.1,
    )
