-- The small projects, mostly by computing.
use Rattle.std.proofs.Common.{◌≡◌, ℕ, ◌+◌, ◌-◌, ◌<◌, ◌≤◌, inl, inr, arith, refl, ap, subst, [], ◌∷◌, length, Bool, true, false, eqb, leb, ◌||◌}
use Rattle.std.specs.Prelude.{slice_index}
use Rattle.std.proofs.lemmas.Bool.{leb-true, cases_lt}
use Rattle.rcpsp_model.specs.declared.parts.Entry.{Entry}
use Rattle.rcpsp_model.specs.Project.{Project, job_count, modes_of, mode_of, successors_of, duration, request, need, capacity, budget, is_before, Before, IsProject}
use Rattle.rcpsp_model.specs.Schedule.{finish, usage, used, cap, calm}
use Rattle.rcpsp_model.specs.Chain.{least_duration}
use Rattle.rcpsp_model.specs.Modes.{least_work, TakesLess, time, renewable, nonrenewable, IsEfficient}
use Rattle.rcpsp_model.specs.Tree.{CanStart, entry_at, IsPlacedChild}
use Rattle.rcpsp_model.specs.Dominance.{Dominates}
use Rattle.rcpsp_model.specs.Examples.{at, two_in_turn, TwoInTurn, after_a_break, AfterABreak, zero_lengths, before_fifth, ZeroLengths, short_or_cheap, ShortOrCheap, needs_differ, used_3, used_1, used_1_too, NeedsDiffer}
use Rattle.rcpsp_model.proofs.Lists.{In, In-from_Contains}
use Rattle.rcpsp_model.proofs.Entries.{same_entry}
use Rattle.rcpsp_model.proofs.Usage.{usage-total}
use Rattle.rcpsp_model.proofs.Completed.{precedes}
use Rattle.rcpsp_model.proofs.WorkHeld.{quotient_law}
use Rattle.rcpsp_model.proofs.ChildTests.{placed_test-true}
use Rattle.rcpsp_model.proofs.BoundTests.{work_test-true}
use Rattle.rcpsp_model.proofs.TreeTests.{front_test-true, tail_bound-from_tests, rank_test-true}
use Rattle.rcpsp_model.proofs.Tests.{all_below-true, all_to-true, All-every, project-from_tests, feasible_test-true, preds_test-true, fits_test-true}

two_project : IsProject two_in_turn
unfolding job_count successors_of
two_project = project-from_tests two_in_turn (λ j. j) refl refl

pub two_facts : TwoInTurn
unfolding job_count modes_of mode_of successors_of duration request need capacity budget is_before cap calm least_duration least_work
two_facts = record {
  project = two_project;
  feasible = feasible_test-true two_in_turn (at 1 0 ∷ at 1 0 ∷ at 1 3 ∷ at 1 5 ∷ []) refl;
  over_capacity = λ f. let over : 4 ≤ 3 = f.capacity 1 0 (omega arith, omega arith) (omega arith) in omega arith;
  too_early = λ f. let late : 5 ≤ 4 = precedes two_in_turn (at 1 0 ∷ at 1 0 ∷ at 1 3 ∷ at 1 4 ∷ []) f (entry_at 3 1 3) (entry_at 4 1 4) (inr (inr (inl refl))) (inr (inr (inr (inl refl)))) refl in omega arith;
  tail_bound = tail_bound-from_tests two_in_turn (entry_at 1 1 0 ∷ entry_at 2 1 0 ∷ []) (λ j. slice_index (3 ∷ 3 ∷ 2 ∷ 0 ∷ []) (j - 1)) two_project.acyclic refl refl;
  work_bound = (quotient_law two_in_turn [] 1 4 (omega arith, omega arith) (omega arith) (omega arith)).1 refl;
}

break_project : IsProject after_a_break
unfolding job_count successors_of
break_project = project-from_tests after_a_break (λ j. j) refl refl

pub break_facts : AfterABreak
unfolding job_count modes_of mode_of successors_of duration request need capacity budget is_before cap calm least_duration least_work
break_facts = record {
  project = break_project;
  feasible = feasible_test-true after_a_break (at 1 0 ∷ at 1 2 ∷ at 1 5 ∷ at 1 7 ∷ []) refl;
  in_the_break = λ f. let over : 2 ≤ 1 = f.capacity 1 1 (omega arith, omega arith) (omega arith) in omega arith;
  front = (
    (placed_test-true after_a_break [] 1 1 0 refl).follows,
    ((placed_test-true after_a_break (entry_at 1 1 0 ∷ []) 2 1 2 refl).follows, tt),
  );
  work_bound = work_test-true after_a_break [] 1 refl;
}

-- where a job has one mode, it is efficient
only-efficient : (P : Project) (j : ℕ) → length (modes_of P j) ≡ 1 → IsEfficient P j 1
only-efficient P j one n b =
    let mode = b.mode in
    let is : n ≡ 1 = let low = mode.0 in let high = mode.1 in omega arith in
    elim b.preferred [ inr lower ↦ omega arith | inl less ↦ no_less (subst (λ (k : ℕ). TakesLess P j k 1) is less) ]
  where
    no_less : TakesLess P j 1 1 → ⊥
    no_less (time h) = omega arith
    no_less (renewable k r h) = omega arith
    no_less (nonrenewable l r h) = omega arith

abbrev fifth : Entry
fifth = entry_at 5 1 3

fifth-least : (u : ℕ) → CanStart zero_lengths before_fifth 5 1 u → 3 ≤ u
unfolding mode_of modes_of duration request capacity cap
fifth-least u can = elim (cases_lt u 3) [
  | inr late ↦ late
  | inl early ↦
      let over : (v : ℕ) → v < 3 → leb 4 (usage zero_lengths before_fifth 1 v + 2) ≡ true = all_below-true (λ v. leb 4 (usage zero_lengths before_fifth 1 v + 2)) 3 refl in
      let fits : usage zero_lengths before_fifth 1 u + 2 ≤ 3 = can.fits 1 u (omega arith, omega arith) (omega arith) (omega arith) in
      let more = leb-true 4 (usage zero_lengths before_fifth 1 u + 2) (over u early) in
      absurd (omega arith)
]

fifth-start : CanStart zero_lengths before_fifth 5 1 3
unfolding job_count mode_of modes_of successors_of is_before duration request capacity cap
fifth-start = record {
  after_last = omega arith;
  after_preds = All-every (λ x. Before zero_lengths x.job 5 → finish zero_lengths x ≤ 3) (λ x. leb (finish zero_lengths x) 3) before_fifth (λ x h b. leb-true (finish zero_lengths x) 3 h) refl;
  fits = fits_test-true zero_lengths before_fifth 5 1 3 refl;
}

fifth-child : IsPlacedChild zero_lengths before_fifth fifth
unfolding job_count mode_of modes_of successors_of is_before duration request capacity
fifth-child = record {
  follows = record {
    eligible = record { job = (omega arith, omega arith); unplaced = refl; preds = preds_test-true zero_lengths before_fifth 5 refl };
    mode = (omega arith, omega arith);
    start = record { attained = fifth-start; least = fifth-least };
    budgets = λ l r. let low = r.0 in let high = r.1 in absurd (omega arith);
  };
  executable = λ _ k r. leb-true _ _ (all_to-true (λ i. leb (request zero_lengths 5 1 i) (capacity zero_lengths i)) 1 refl k r.0 r.1);
  budgets = λ l r. let low = r.0 in let high = r.1 in absurd (omega arith);
  efficient = only-efficient zero_lengths 5 refl;
}

zero_project : IsProject zero_lengths
unfolding job_count successors_of
zero_project = project-from_tests zero_lengths (λ j. slice_index (3 ∷ 2 ∷ 1 ∷ 4 ∷ 0 ∷ []) (j - 1)) refl refl

pub zero_facts : ZeroLengths
unfolding job_count modes_of mode_of successors_of duration request need capacity budget is_before cap
zero_facts = record {
  project = zero_project;
  feasible = feasible_test-true zero_lengths (at 1 0 ∷ at 1 0 ∷ at 1 0 ∷ at 1 0 ∷ at 1 3 ∷ []) refl;
  rank = (3 ∷ 2 ∷ 1 ∷ [], rank_test-true zero_lengths [] (3 ∷ 2 ∷ 1 ∷ 4 ∷ []) refl, refl);
  front = front_test-true zero_lengths [] before_fifth refl;
  children = ((3, refl, fifth-child), tt);
}

pub short_facts : ShortOrCheap
unfolding job_count modes_of mode_of successors_of duration request need capacity budget is_before cap
short_facts = record {
  project = project-from_tests short_or_cheap (λ j. j) refl refl;
  feasible = feasible_test-true short_or_cheap (at 1 0 ∷ at 1 0 ∷ at 2 0 ∷ at 1 4 ∷ []) refl;
  over_budget = λ f. let over : 6 ≤ 4 = f.budgets 1 (omega arith, omega arith) in omega arith;
}

or_swap : (a b c : Bool) → (a || (b || (c || false))) ≡ (a || (c || (b || false)))
or_swap true b c = refl
or_swap false true true = refl
or_swap false true false = refl
or_swap false false true = refl
or_swap false false false = refl

used_1-In : (e : Entry) → In used_1_too e → In used_1 e
used_1-In e (inl p) = inl p
used_1-In e (inr (inl p)) = inr (inr (inl p))
used_1-In e (inr (inr (inl p))) = inr (inl p)
used_1-In e (inr (inr (inr i))) = absurd i

needs_dominated : Dominates needs_differ used_1_too used_1
unfolding job_count modes_of mode_of duration need
needs_dominated = record {
  jobs = λ j. or_swap (eqb 1 j) (eqb 2 j) (eqb 3 j);
  last = omega arith;
  end = omega arith;
  needs = λ l r. leb-true _ _ (all_to-true (λ i. leb (used needs_differ used_1_too i) (used needs_differ used_1 i)) 1 refl l r.0 r.1);
  usage = λ k t r late. let one = usage-total needs_differ used_1_too k t in let two = usage-total needs_differ used_1 k t in omega arith;
  finishes = λ a b j in_a in_b same before free.
      let is = same_entry used_1 (refl, (refl, (refl, tt))) a b (used_1-In a (In-from_Contains used_1_too a in_a)) (In-from_Contains used_1 b in_b) same in
      let finish_ = ap (finish needs_differ) is in omega arith;
}

pub needs_facts : NeedsDiffer
unfolding job_count modes_of mode_of successors_of duration request need capacity budget is_before cap
needs_facts = record {
  project = project-from_tests needs_differ (λ j. j) refl refl;
  fronts = (front_test-true needs_differ [] used_3 refl, front_test-true needs_differ [] used_1 refl, front_test-true needs_differ [] used_1_too refl);
  dominated = needs_dominated;
  needs_more = λ d. let more : 3 ≤ 1 = d.needs 1 (omega arith, omega arith) in omega arith;
}
