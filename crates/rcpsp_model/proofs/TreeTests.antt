-- Tests that compute fronts, tail bounds and ranks on a project that is given, and what they show.
use Rattle.std.proofs.Common.{◌≡◌, ℕ, ◌+◌, ◌≤◌, inl, inr, arith, refl, sym, ap, ◌∙◌, List, [], ◌∷◌, ◌++◌, length, Bool, true, false, eqb, leb, ◌&&◌, ◌||◌, not}
use Rattle.std.proofs.lemmas.Bool.{and_parts, and_from, leb-true, eqb-true, or_cases, both_ways, false≢true}
use Rattle.std.proofs.lemmas.List.Elements.{All-head}
use Rattle.rcpsp_model.specs.declared.parts.Entry.{Entry}
use Rattle.rcpsp_model.specs.Project.{Project, job_count, modes_of, successors_of, budget, is_before, nonrenewables, Before, IsJob, IsAcyclic}
use Rattle.rcpsp_model.specs.Schedule.{finish, used, end_of}
use Rattle.rcpsp_model.specs.Chain.{least_duration, IsChain}
use Rattle.rcpsp_model.specs.Tree.{has_job, last_start, Follows, InTurn}
use Rattle.rcpsp_model.specs.Bounds.{ready, TailValue, of_front, of_chain, IsTailBound}
use Rattle.rcpsp_model.specs.Rank.{is_among, HasPredecessors, IsLowestFree}
use Rattle.rcpsp_model.proofs.Lists.{total, sum_by-total}
use Rattle.rcpsp_model.proofs.Successors.{any-In, before-any, before-job}
use Rattle.rcpsp_model.proofs.Tests.{implies-from, all_below-from, all_to, all_to-true, every, every-In, All-every, implies, implies-true, among, among-true, preds_test, preds_test-true, fits_test, fits_test-true}

-- A front whose entries each start at the last start, by computing.

abbrev pub follows_test : Project → List Entry → Entry → Bool
follows_test P F e =
    among (job_count P) e.job && (not (has_job F e.job) && (preds_test P F e.job && (among (length (modes_of P e.job)) e.mode &&
    (every (λ x. implies (is_before P x.job e.job) (leb (finish P x) e.start)) F && (fits_test P F e.job e.mode e.start &&
    (all_to (λ l. leb (used P (F ++ e ∷ []) l) (budget P l)) (nonrenewables P) && eqb e.start (last_start F)))))))

pub not-true : (b : Bool) → not b ≡ true → b ≡ false
not-true true h = absurd (false≢true h)
not-true false h = refl

follows_test-true : (P : Project) (F : List Entry) (e : Entry) → follows_test P F e ≡ true → Follows P F e
follows_test-true P F e h =
    let Done : Entry → Bool = λ x. implies (is_before P x.job e.job) (leb (finish P x) e.start) in
    let Paid : ℕ → Bool = λ l. leb (used P (F ++ e ∷ []) l) (budget P l) in
    let a = and_parts (among (job_count P) e.job) _ h in
    let b = and_parts (not (has_job F e.job)) _ a.1 in
    let c = and_parts (preds_test P F e.job) _ b.1 in
    let d = and_parts (among (length (modes_of P e.job)) e.mode) _ c.1 in
    let g = and_parts (every Done F) _ d.1 in
    let i = and_parts (fits_test P F e.job e.mode e.start) _ g.1 in
    let k = and_parts (all_to Paid (nonrenewables P)) (eqb e.start (last_start F)) i.1 in
    let same = eqb-true e.start (last_start F) k.1 in
    record {
      eligible = record { job = among-true (job_count P) e.job a.0; unplaced = not-true (has_job F e.job) b.0; preds = preds_test-true P F e.job c.0 };
      mode = among-true (length (modes_of P e.job)) e.mode d.0;
      start = record {
        attained = record {
          after_last = omega arith;
          after_preds = All-every (λ x. Before P x.job e.job → finish P x ≤ e.start) Done F (λ x t before. leb-true _ _ (implies-true (is_before P x.job e.job) _ t before)) g.0;
          fits = fits_test-true P F e.job e.mode e.start i.0;
        };
        least = λ u can. let last = can.after_last in omega arith;
      };
      budgets = λ l r. leb-true _ _ (all_to-true Paid (nonrenewables P) k.0 l r.0 r.1);
    }

abbrev pub front_test : Project → List Entry → List Entry → Bool
front_test P F [] = true
front_test P F (e ∷ es) = follows_test P F e && front_test P (F ++ e ∷ []) es

pub front_test-true : (P : Project) (F es : List Entry) → front_test P F es ≡ true → InTurn (Follows P) F es
front_test-true P F [] h = tt
front_test-true P F (e ∷ es) h =
    let a = and_parts (follows_test P F e) (front_test P (F ++ e ∷ []) es) h in (follows_test-true P F e a.0, front_test-true P (F ++ e ∷ []) es a.1)

-- A tail bound that is the end of the front, where each job has a number that is at least its tail.

abbrev pub tails_test : Project → (ℕ → ℕ) → Bool
tails_test P tail = all_to (λ j. leb (least_duration P j) (tail j) && every (λ k. leb (least_duration P j + tail k) (tail j)) (successors_of P j)) (job_count P)

tails-job : (P : Project) (tail : ℕ → ℕ) → tails_test P tail ≡ true → (j : ℕ) → IsJob P j → least_duration P j ≤ tail j
tails-job P tail h j job =
    leb-true _ _ (and_parts (leb (least_duration P j) (tail j)) _
    (all_to-true (λ i. leb (least_duration P i) (tail i) && every (λ k. leb (least_duration P i + tail k) (tail i)) (successors_of P i)) (job_count P) h j job.0 job.1)).0

tails-pair : (P : Project) (tail : ℕ → ℕ) → tails_test P tail ≡ true → (j k : ℕ) → Before P j k → least_duration P j + tail k ≤ tail j
tails-pair P tail h j k b =
    let job = before-job P j k b in
    leb-true _ _ (every-In (λ i. leb (least_duration P j + tail i) (tail j)) (successors_of P j) (and_parts (leb (least_duration P j) (tail j)) _
    (all_to-true (λ i. leb (least_duration P i) (tail i) && every (λ k. leb (least_duration P i + tail k) (tail i)) (successors_of P i)) (job_count P) h j job.0 job.1)).1
    k (any-In (successors_of P j) k (sym (before-any P j k job.0) ∙ b)))

pub chain-le : (P : Project) (tail : ℕ → ℕ) → IsAcyclic P → tails_test P tail ≡ true → (j : ℕ) (js : List ℕ) → IsJob P j → IsChain P (j ∷ js) → total (least_duration P) (j ∷ js) ≤ tail j
chain-le P tail a h j [] job c = let own = tails-job P tail h j job in omega arith
chain-le P tail a h j (k ∷ js) job c =
    let ih = chain-le P tail a h k js (a.jobs j k c.0).1 c.1 in let pair = tails-pair P tail h j k c.0 in omega arith

abbrev pub ready_test : Project → List Entry → (ℕ → ℕ) → ℕ → Bool
ready_test P F tail t = all_to (λ j. has_job F j || leb (ready P F j + tail j) t) (job_count P)

pub tail_bound-from_tests : (P : Project) (F : List Entry) (tail : ℕ → ℕ) → IsAcyclic P → tails_test P tail ≡ true → ready_test P F tail (end_of P F) ≡ true → IsTailBound P F (end_of P F)
tail_bound-from_tests P F tail a h r = record { attained = of_front; greatest = at_most }
  where
    at_most : (u : ℕ) → TailValue P F u → u ≤ end_of P F
    at_most _ of_front = omega arith
    at_most _ (of_chain j js job is_chain free) =
        let sum = sum_by-total (least_duration P) (j ∷ js) in
        let along = chain-le P tail a h j js job is_chain in
        elim (or_cases (has_job F j) (leb (ready P F j + tail j) (end_of P F)) (all_to-true (λ i. has_job F i || leb (ready P F i + tail i) (end_of P F)) (job_count P) r j job.0 job.1)) [
          | inl placed ↦ absurd (both_ways (has_job F j) (All-head (λ i. has_job F i ≡ false) j js free) placed)
          | inr soon ↦ let late = leb-true _ _ soon in omega arith
        ]

-- Each job is the lowest that is free, by computing.

abbrev pub free_test : Project → List ℕ → ℕ → Bool
free_test P before j = not (is_among before j) && all_to (λ i. implies (is_before P i j) (is_among before i)) (job_count P)

free_test-true : (P : Project) (before : List ℕ) (j : ℕ) → free_test P before j ≡ true → (is_among before j ≡ false) × HasPredecessors P (is_among before) j
free_test-true P before j h =
    let a = and_parts (not (is_among before j)) _ h in (
      not-true (is_among before j) a.0,
      λ i b.
          let job = before-job P i j b in
          implies-true (is_before P i j) (is_among before i) (all_to-true (λ k. implies (is_before P k j) (is_among before k)) (job_count P) a.1 i job.0 job.1) b,
    )

free_test-from : (P : Project) (before : List ℕ) (j : ℕ) → is_among before j ≡ false → HasPredecessors P (is_among before) j → free_test P before j ≡ true
free_test-from P before j h preds =
    and_from _ _ (ap not h) (all_below-from (λ n. implies (is_before P (n + 1) j) (is_among before (n + 1))) (job_count P) (λ n low. implies-from _ _ (preds (n + 1))))

abbrev pub rank_test : Project → List ℕ → List ℕ → Bool
rank_test P before [] = true
rank_test P before (j ∷ js) = among (job_count P) j && (free_test P before j && (all_to (λ i. implies (free_test P before i) (leb j i)) (job_count P) && rank_test P (before ++ j ∷ []) js))

pub rank_test-true : (P : Project) (before js : List ℕ) → rank_test P before js ≡ true → InTurn (λ taken. IsLowestFree P (is_among taken)) before js
rank_test-true P before [] h = tt
rank_test-true P before (j ∷ js) h =
    let Later : ℕ → Bool = λ i. implies (free_test P before i) (leb j i) in
    let a = and_parts (among (job_count P) j) _ h in
    let b = and_parts (free_test P before j) _ a.1 in
    let c = and_parts (all_to Later (job_count P)) _ b.1 in
    let free = free_test-true P before j b.0 in (
      record {
        job = among-true (job_count P) j a.0;
        untaken = free.0;
        preds = free.1;
        lowest = λ i job untaken preds. leb-true j i (implies-true (free_test P before i) (leb j i) (all_to-true Later (job_count P) c.0 i job.0 job.1) (free_test-from P before i untaken preds));
      },
      rank_test-true P (before ++ j ∷ []) js c.1,
    )
