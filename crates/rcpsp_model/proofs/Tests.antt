-- Tests that compute the definitions on a project that is given, and what they show.
use Rattle.std.proofs.Common.{◌≡◌, ℕ, zero, suc, ◌+◌, ◌-◌, ◌<◌, ◌≤◌, inl, inr, arith, refl, sym, subst, ◌∙◌, List, [], ◌∷◌, length, Bool, true, false, eqb, leb, ltb, ◌&&◌, ◌||◌, not}
use Rattle.std.specs.Prelude.{All, slice_index, sum_by}
use Rattle.std.proofs.lemmas.Bool.{and_parts, and_from, leb-true, ltb-true, eqb-true, cases_eq, or_cases, false≢true}
use Rattle.rcpsp_model.specs.declared.parts.CalRow.{CalRow}
use Rattle.rcpsp_model.specs.declared.parts.Entry.{Entry}
use Rattle.rcpsp_model.specs.declared.parts.Mode.{Mode}
use Rattle.rcpsp_model.specs.declared.parts.Placing.{Placing}
use Rattle.rcpsp_model.specs.Project.{Activity, Project, job_count, modes_of, successors_of, duration, request, budget, renewables, nonrenewables, is_before, Before, IsMode, IsAscending, IsModeWithinLimits, IsActivityWithinLimits, MayPrecede, IsInOrder, IsRowWithinLimits, IsWithinLimits, IsAcyclic, IsProject}
use Rattle.rcpsp_model.specs.Schedule.{finish, usage, used, end_of, entries, cap, IsFeasible}
use Rattle.rcpsp_model.specs.Tree.{has_job, Fits}
use Rattle.rcpsp_model.proofs.Lists.{In, All-from_In, In-from_Contains}
use Rattle.rcpsp_model.proofs.Successors.{any-In, before-any, before-job}

-- all numbers below n pass
abbrev pub all_below : (ℕ → Bool) → ℕ → Bool
all_below f zero = true
all_below f (suc n) = f n && all_below f n

pub all_below-true : (f : ℕ → Bool) (n : ℕ) → all_below f n ≡ true → (i : ℕ) → i < n → f i ≡ true
all_below-true f zero h i low = absurd (omega arith)
all_below-true f (suc n) h i low =
    let parts = and_parts (f n) (all_below f n) h in
    elim (cases_eq i n) [ inl e ↦ subst (λ (k : ℕ). f k ≡ true) (sym e) parts.0 | inr ne ↦ all_below-true f n parts.1 i (omega arith) ]

-- all numbers from 1 to n pass
abbrev pub all_to : (ℕ → Bool) → ℕ → Bool
all_to f n = all_below (λ i. f (i + 1)) n

pub all_to-true : (f : ℕ → Bool) (n : ℕ) → all_to f n ≡ true → (i : ℕ) → 1 ≤ i → i ≤ n → f i ≡ true
all_to-true f n h i low high =
    let one : (i - 1) + 1 ≡ i = omega arith in
    subst (λ (k : ℕ). f k ≡ true) one (all_below-true (λ k. f (k + 1)) n h (i - 1) (omega arith))

pub all_below-from : (f : ℕ → Bool) (n : ℕ) → ((i : ℕ) → i < n → f i ≡ true) → all_below f n ≡ true
all_below-from f zero h = refl
all_below-from f (suc n) h = and_from (f n) (all_below f n) (h n (omega arith)) (all_below-from f n (λ i low. h i (omega arith)))

-- all items pass
abbrev pub every : {X : Type 0} → (X → Bool) → List X → Bool
every p [] = true
every p (x ∷ xs) = p x && every p xs

pub every-In : {X : Type 0} (p : X → Bool) (xs : List X) → every p xs ≡ true → (x : X) → In xs x → p x ≡ true
every-In p [] h x i = absurd i
every-In {X = X} p (y ∷ ys) h x (inl e) = subst (λ (z : X). p z ≡ true) e (and_parts (p y) (every p ys) h).0
every-In p (y ∷ ys) h x (inr i) = every-In p ys (and_parts (p y) (every p ys) h).1 x i

pub All-every : {X : Type 0} (Q : X → Type 0) (p : X → Bool) (xs : List X) → ((x : X) → p x ≡ true → Q x) → every p xs ≡ true → All Q xs
All-every Q p xs f h = All-from_In Q xs (λ x i. f x (every-In p xs h x i))

abbrev pub implies : Bool → Bool → Bool
implies a b = not a || b

pub implies-true : (a b : Bool) → implies a b ≡ true → a ≡ true → b ≡ true
implies-true true b h t = h
implies-true false b h t = absurd (false≢true t)

pub implies-from : (a b : Bool) → (a ≡ true → b ≡ true) → implies a b ≡ true
implies-from true b h = h refl
implies-from false b h = refl

-- Limits.

abbrev is_small : ℕ → Bool
is_small n = leb n 1000000

abbrev mode_test : ℕ → ℕ → Mode → Bool
mode_test r n m = leb m.duration 10000 && (eqb (length m.requests) r && (eqb (length m.needs) n && (every is_small m.requests && every is_small m.needs)))

mode_test-true : (r n : ℕ) (m : Mode) → mode_test r n m ≡ true → IsModeWithinLimits r n m
mode_test-true r n m h =
    let a = and_parts (leb m.duration 10000) _ h in
    let b = and_parts (eqb (length m.requests) r) _ a.1 in
    let c = and_parts (eqb (length m.needs) n) _ b.1 in
    let d = and_parts (every is_small m.requests) _ c.1 in
    record {
      duration = leb-true m.duration 10000 a.0;
      all_requests = eqb-true (length m.requests) r b.0;
      all_needs = eqb-true (length m.needs) n c.0;
      requests = All-every (λ x. x ≤ 1000000) is_small m.requests (λ x t. leb-true x 1000000 t) d.0;
      needs = All-every (λ x. x ≤ 1000000) is_small m.needs (λ x t. leb-true x 1000000 t) d.1;
    }

abbrev ascending_test : List ℕ → Bool
ascending_test [] = true
ascending_test (i ∷ []) = true
ascending_test (i ∷ j ∷ js) = ltb i j && ascending_test (j ∷ js)

ascending_test-true : (js : List ℕ) → ascending_test js ≡ true → IsAscending js
ascending_test-true [] h = tt
ascending_test-true (i ∷ []) h = tt
ascending_test-true (i ∷ j ∷ js) h = let a = and_parts (ltb i j) (ascending_test (j ∷ js)) h in (ltb-true i j a.0, ascending_test-true (j ∷ js) a.1)

abbrev pub among : ℕ → ℕ → Bool
among n s = leb 1 s && leb s n

pub among-true : (n s : ℕ) → among n s ≡ true → (1 ≤ s) × (s ≤ n)
among-true n s h = let a = and_parts (leb 1 s) (leb s n) h in (leb-true 1 s a.0, leb-true s n a.1)

abbrev activity_test : ℕ → ℕ → ℕ → Activity → Bool
activity_test jobs r n a =
    leb 1 (length a.modes) && (leb (length a.modes) 16 && (every (mode_test r n) a.modes && (ascending_test a.successors && every (among jobs) a.successors)))

activity_test-true : (jobs r n : ℕ) (x : Activity) → activity_test jobs r n x ≡ true → IsActivityWithinLimits jobs r n x
activity_test-true jobs r n x h =
    let a = and_parts (leb 1 (length x.modes)) _ h in
    let b = and_parts (leb (length x.modes) 16) _ a.1 in
    let c = and_parts (every (mode_test r n) x.modes) _ b.1 in
    let d = and_parts (ascending_test x.successors) _ c.1 in
    record {
      some_mode = leb-true 1 (length x.modes) a.0;
      few_modes = leb-true (length x.modes) 16 b.0;
      modes = All-every (IsModeWithinLimits r n) (mode_test r n) x.modes (mode_test-true r n) c.0;
      ascending = ascending_test-true x.successors d.0;
      successors = All-every (λ s. (1 ≤ s) × (s ≤ jobs)) (among jobs) x.successors (among-true jobs) d.1;
    }

abbrev row_test : List ℕ → CalRow → Bool
row_test capacities row =
    among (length capacities) row.resource && (ltb row.begin row.until && (leb row.until 10000 && leb row.capacity (slice_index capacities (row.resource - 1))))

row_test-true : (capacities : List ℕ) (row : CalRow) → row_test capacities row ≡ true → IsRowWithinLimits capacities row
row_test-true capacities row h =
    let a = and_parts (among (length capacities) row.resource) _ h in
    let b = and_parts (ltb row.begin row.until) _ a.1 in
    let c = and_parts (leb row.until 10000) _ b.1 in
    let resource = among-true (length capacities) row.resource a.0 in
    record {
      some_resource = resource.0;
      few_resources = resource.1;
      some_period = ltb-true row.begin row.until b.0;
      until = leb-true row.until 10000 c.0;
      capacity = leb-true row.capacity _ c.1;
    }

abbrev precede_test : CalRow → CalRow → Bool
precede_test a b = ltb a.resource b.resource || (eqb a.resource b.resource && leb a.until b.begin)

precede_test-true : (a b : CalRow) → precede_test a b ≡ true → MayPrecede a b
precede_test-true a b h = elim (or_cases (ltb a.resource b.resource) _ h) [
  | inl low ↦ inl (ltb-true a.resource b.resource low)
  | inr same ↦ let p = and_parts (eqb a.resource b.resource) _ same in inr (eqb-true a.resource b.resource p.0, leb-true a.until b.begin p.1)
]

abbrev order_test : List CalRow → Bool
order_test [] = true
order_test (a ∷ []) = true
order_test (a ∷ b ∷ rows) = precede_test a b && order_test (b ∷ rows)

order_test-true : (rows : List CalRow) → order_test rows ≡ true → IsInOrder rows
order_test-true [] h = tt
order_test-true (a ∷ []) h = tt
order_test-true (a ∷ b ∷ rows) h = let p = and_parts (precede_test a b) (order_test (b ∷ rows)) h in (precede_test-true a b p.0, order_test-true (b ∷ rows) p.1)

abbrev calendar_test : Project → Bool
calendar_test P = leb (length P.calendar) 256 && (every (row_test P.capacities) P.calendar && order_test P.calendar)

abbrev pub limits_test : Project → Bool
limits_test P =
    among 128 (job_count P) && (leb (sum_by (λ a. length a.modes) P.activities) 512 && (leb (renewables P) 16 && (leb (nonrenewables P) 16 &&
    (every (activity_test (length P.activities) (length P.capacities) (length P.budgets)) P.activities && (every is_small P.capacities && (every is_small P.budgets && calendar_test P))))))

limits_test-true : (P : Project) → limits_test P ≡ true → IsWithinLimits P
limits_test-true P h =
    let a = and_parts (among 128 (job_count P)) _ h in
    let b = and_parts (leb (sum_by (λ (x : Activity). length x.modes) P.activities) 512) _ a.1 in
    let c = and_parts (leb (renewables P) 16) _ b.1 in
    let d = and_parts (leb (nonrenewables P) 16) _ c.1 in
    let Fine : Activity → Bool = activity_test (length P.activities) (length P.capacities) (length P.budgets) in
    let e = and_parts (every Fine P.activities) _ d.1 in
    let f = and_parts (every is_small P.capacities) _ e.1 in
    let g = and_parts (every is_small P.budgets) (calendar_test P) f.1 in
    let rows = and_parts (leb (length P.calendar) 256) _ g.1 in
    let order = and_parts (every (row_test P.capacities) P.calendar) _ rows.1 in
    let jobs = among-true 128 (job_count P) a.0 in
    record {
      some_job = jobs.0;
      few_jobs = jobs.1;
      few_modes = leb-true _ 512 b.0;
      few_renewables = leb-true (renewables P) 16 c.0;
      few_nonrenewables = leb-true (nonrenewables P) 16 d.0;
      activities = All-every (IsActivityWithinLimits (length P.activities) (length P.capacities) (length P.budgets)) Fine P.activities (activity_test-true (length P.activities) (length P.capacities) (length P.budgets)) e.0;
      capacities = All-every (λ c. c ≤ 1000000) is_small P.capacities (λ x t. leb-true x 1000000 t) f.0;
      budgets = All-every (λ c. c ≤ 1000000) is_small P.budgets (λ x t. leb-true x 1000000 t) g.0;
      few_rows = leb-true (length P.calendar) 256 rows.0;
      rows = All-every (IsRowWithinLimits P.capacities) (row_test P.capacities) P.calendar (row_test-true P.capacities) order.0;
      calendar = order_test-true P.calendar order.1;
    }

-- No cycle, by numbers that rise.

abbrev pub rises_test : Project → (ℕ → ℕ) → Bool
rises_test P rank = all_to (λ i. every (λ s. ltb (rank i) (rank s) && among (job_count P) s) (successors_of P i)) (job_count P)

rises_test-true : (P : Project) (rank : ℕ → ℕ) → rises_test P rank ≡ true → IsAcyclic P
rises_test-true P rank h = record {
  jobs = λ i j b. (before-job P i j b, among-true (job_count P) j (and_parts (ltb (rank i) (rank j)) (among (job_count P) j) (pair i j b)).1);
  rank = rank;
  rises = λ i j b. ltb-true (rank i) (rank j) (and_parts (ltb (rank i) (rank j)) (among (job_count P) j) (pair i j b)).0;
}
  where
    pair : (i j : ℕ) → Before P i j → (ltb (rank i) (rank j) && among (job_count P) j) ≡ true
    pair i j b =
        let job = before-job P i j b in
        every-In (λ s. ltb (rank i) (rank s) && among (job_count P) s) (successors_of P i)
        (all_to-true (λ k. every (λ s. ltb (rank k) (rank s) && among (job_count P) s) (successors_of P k)) (job_count P) h i job.0 job.1)
        j (any-In (successors_of P i) j (sym (before-any P i j job.0) ∙ b))

pub project-from_tests : (P : Project) (rank : ℕ → ℕ) → limits_test P ≡ true → rises_test P rank ≡ true → IsProject P
project-from_tests P rank l r = record { limits = limits_test-true P l; acyclic = rises_test-true P rank r }

-- Feasible schedules.

abbrev mode_exists : Project → Entry → Bool
mode_exists P e = among (length (modes_of P e.job)) e.mode

abbrev waits : Project → Entry → Entry → Bool
waits P a b = implies (is_before P a.job b.job) (leb (finish P a) b.start)

abbrev pub feasible_test : Project → List Placing → Bool
feasible_test P s =
    eqb (length s) (job_count P) && (every (mode_exists P) (entries s) && (every (λ a. every (waits P a) (entries s)) (entries s) &&
    (all_to (λ k. all_below (λ t. leb (usage P (entries s) k t) (cap P k t)) (end_of P (entries s))) (renewables P) &&
    all_to (λ l. leb (used P (entries s) l) (budget P l)) (nonrenewables P))))

pub feasible_test-true : (P : Project) (s : List Placing) → feasible_test P s ≡ true → IsFeasible P s
feasible_test-true P s h =
    let a = and_parts (eqb (length s) (job_count P)) _ h in
    let b = and_parts (every (mode_exists P) (entries s)) _ a.1 in
    let c = and_parts (every (λ x. every (waits P x) (entries s)) (entries s)) _ b.1 in
    let Keeps : ℕ → ℕ → Bool = λ k t. leb (usage P (entries s) k t) (cap P k t) in
    let d = and_parts (all_to (λ k. all_below (Keeps k) (end_of P (entries s))) (renewables P)) (all_to (λ l. leb (used P (entries s) l) (budget P l)) (nonrenewables P)) c.1 in
    record {
      whole = eqb-true (length s) (job_count P) a.0;
      modes = All-every (λ e. IsMode P e.job e.mode) (mode_exists P) (entries s) (λ e t. among-true (length (modes_of P e.job)) e.mode t) b.0;
      precedence = λ x y i j before.
          let both = every-In (waits P x) (entries s) (every-In (λ z. every (waits P z) (entries s)) (entries s) c.0 x (In-from_Contains (entries s) x i)) y (In-from_Contains (entries s) y j) in
          leb-true (finish P x) y.start (implies-true (is_before P x.job y.job) (leb (finish P x) y.start) both before);
      capacity = λ k t r low. leb-true _ _ (all_below-true (Keeps k) (end_of P (entries s)) (all_to-true (λ i. all_below (Keeps i) (end_of P (entries s))) (renewables P) d.0 k r.0 r.1) t low);
      budgets = λ l r. leb-true _ _ (all_to-true (λ i. leb (used P (entries s) i) (budget P i)) (nonrenewables P) d.1 l r.0 r.1);
    }

-- Predecessors of a job, and where it fits.

abbrev pub preds_test : Project → List Entry → ℕ → Bool
preds_test P F j = all_to (λ i. implies (is_before P i j) (has_job F i)) (job_count P)

pub preds_test-true : (P : Project) (F : List Entry) (j : ℕ) → preds_test P F j ≡ true → (i : ℕ) → Before P i j → has_job F i ≡ true
preds_test-true P F j h i b =
    let job = before-job P i j b in
    implies-true (is_before P i j) (has_job F i) (all_to-true (λ k. implies (is_before P k j) (has_job F k)) (job_count P) h i job.0 job.1) b

abbrev pub fits_test : Project → List Entry → ℕ → ℕ → ℕ → Bool
fits_test P es j m t = all_to (λ k. all_below (λ i. leb (usage P es k (t + i) + request P j m k) (cap P k (t + i))) (duration P j m)) (renewables P)

pub fits_test-true : (P : Project) (es : List Entry) (j m t : ℕ) → fits_test P es j m t ≡ true → Fits P es j m t
fits_test-true P es j m t h k u r low high =
    let Room : ℕ → ℕ → Bool = λ i n. leb (usage P es i (t + n) + request P j m i) (cap P i (t + n)) in
    let at : t + (u - t) ≡ u = omega arith in
    subst (λ (v : ℕ). usage P es k v + request P j m k ≤ cap P k v) at
    (leb-true _ _ (all_below-true (Room k) (duration P j m) (all_to-true (λ i. all_below (Room i) (duration P j m)) (renewables P) h k r.0 r.1) (u - t) (omega arith)))
