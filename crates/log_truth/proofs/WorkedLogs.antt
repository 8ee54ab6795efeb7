-- The worked logs, by computing.
use Rattle.std.proofs.Common.{◌≡◌, ℕ, ◌-◌, ◌≤◌, inl, inr, arith, refl, sym, ap, ◌∙◌, subst, List, [], ◌∷◌, true, Option, Some, None}
use Rattle.std.specs.List.{slice_index_or}
use Rattle.std.specs.Prelude.{slice_index, map}
use Rattle.std.proofs.lemmas.Bool.{false≢true}
use Rattle.sched_base.specs.declared.fate.Fate.TheVariants.{Expanded, TailBound, WorkBound, Budget, Cutset, Left}
use Rattle.rcpsp_model.specs.declared.parts.Entry.{Entry}
use Rattle.rcpsp_model.specs.declared.parts.Placing.{Placing}
use Rattle.rcpsp_model.specs.declared.parts.Shut.TheVariants.{NoCapacity}
use Rattle.rcpsp_model.specs.declared.parts.Verdict.{Verdict}
use Rattle.rcpsp_model.specs.declared.parts.Verdict.TheVariants.{Optimal, Infeasible, Limit}
use Rattle.rcpsp_model.specs.Project.{Project, job_count, modes_of, mode_of, successors_of, duration, request, need, capacity, budget, is_before, IsAcyclic}
use Rattle.rcpsp_model.specs.Schedule.{cap, calm}
use Rattle.rcpsp_model.specs.Chain.{least_duration}
use Rattle.rcpsp_model.specs.Modes.{least_need, least_work}
use Rattle.rcpsp_model.specs.Tree.{Choice, entry_at, IsShut, IsPlacedChild}
use Rattle.rcpsp_model.specs.Bounds.{IsTailBound}
use Rattle.rcpsp_model.specs.Dominance.{Dominates}
use Rattle.rcpsp_model.specs.Claim.{NoneIsFeasible, NoneEndsBefore}
use Rattle.rcpsp_model.specs.Examples.{at, two_in_turn, after_a_break, zero_lengths, short_or_cheap, needs_differ, used_3, used_1}
use Rattle.rcpsp_model.proofs.Lists.{In-from_Contains}
use Rattle.rcpsp_model.proofs.Tests.{every, All-every, limits_test, rises_test, project-from_tests, feasible_test-true}
use Rattle.rcpsp_model.proofs.ChildTests.{placed_test-true, shut_test-true}
use Rattle.rcpsp_model.proofs.BoundTests.{Chains, tail_bound-by, not_leaf, dominates_test-true}
use Rattle.rcpsp_model.proofs.Decided.{shut-not_placed}
use Rattle.rcpsp_model.proofs.SmallProjects.{needs_facts}
use Rattle.proof_log.specs.declared.report.LogLine.{LogLine}
use Rattle.proof_log.specs.Report.{duration_of}
use Rattle.log_truth.specs.Log.{at_root, by_choice, is_expanded, below, LogNode, front_of, nodes}
use Rattle.log_truth.specs.Holds.{Cites, IsServed, AreServed, LogHolds, Holds}
use Rattle.log_truth.specs.Refusal.{wrong_child, wrong_fate, at_citation, at_lower}
use Rattle.log_truth.specs.Examples.{root_line, line, reported, in_turn_log, in_turn_plan, after_three, cut_off, open_end, InTurn, break_plan, break_log, AfterABreak, asks_too_much, too_much_log, second_mode, second_mode_log, one_unit, two_budgets, two_budgets_log, short_or_cheap_log, too_poor, Letters, zero_lengths_log, twins, twins_plan, twins_log, twins_later, needs_up_to, Citations, NumberOnTrust, closing_each_other, two_then_three, three_then_two, CitationOfAny, ChildLeftOut, cites_itself, Refusals}
use Rattle.log_truth.proofs.LineTests.{line_test-true, logs_test-true}
use Rattle.log_truth.proofs.HoldsTests.{served_test, served_test-true, duration_test, duration_test-true, left_test-from, has_lower_test-true, all_allowed_test-true, holds_test, holds_test-true}
use Rattle.log_truth.proofs.OneRefusal.{line-parts}
use Rattle.log_truth.proofs.NextLines.{break_law, surplus_law, missing_law}
use Rattle.log_truth.proofs.WantsTests.{wants_test-true}

-- a longest chain behind each job, as a list
abbrev by_job : List (List ℕ) → Chains
by_job chains j = slice_index_or chains (j - 1) []

-- jobs that come before those of higher numbers alone
ascending : (P : Project) → limits_test P ≡ true → rises_test P (λ j. j) ≡ true → IsAcyclic P
ascending P l r = (project-from_tests P (λ j. j) l r).acyclic

hold : (P : Project) (a : IsAcyclic P) (chains : Chains) (v : Verdict) (best : Option (List Placing)) (lines : List LogLine) → holds_test P chains v lines ≡ true → duration_test P (duration_of v) best ≡ true →
    Holds P (reported v best lines)
hold P a chains v best lines log has =
    record { lines = lines; is_its = refl; log = holds_test-true P a chains v lines log; best = duration_test-true P (duration_of v) best has }

-- the log of a report that holds is the one that it prints
held : (P : Project) (v : Verdict) (best : Option (List Placing)) (lines : List LogLine) → Holds P (reported v best lines) → LogHolds P v lines
held P v best lines h = let same : h.lines ≡ lines = (let own = h.is_its in cc) in subst (LogHolds P v) same h.log

serve : (P : Project) (lines : List LogLine) → every (served_test P (nodes P lines)) (nodes P lines) ≡ true → AreServed P lines
serve P lines h = All-every (IsServed P (nodes P lines)) (served_test P (nodes P lines)) (nodes P lines) (λ n t. served_test-true P (nodes P lines) n t) h

in_turn-acyclic : IsAcyclic two_in_turn
unfolding job_count successors_of
in_turn-acyclic = ascending two_in_turn refl refl

abbrev in_turn-chains : Chains
in_turn-chains = by_job ((2 ∷ 4 ∷ []) ∷ (4 ∷ []) ∷ (4 ∷ []) ∷ [] ∷ [])

pub in_turn_facts : InTurn
unfolding below job_count modes_of mode_of successors_of duration request need capacity budget is_before cap calm least_duration least_need least_work
in_turn_facts = record {
  optimal = hold two_in_turn in_turn-acyclic in_turn-chains (Optimal 5) in_turn_plan in_turn_log refl refl;
  limit_3 = hold two_in_turn in_turn-acyclic in_turn-chains (Limit (Some 5) 4) in_turn_plan after_three refl refl;
  limit_0 = hold two_in_turn in_turn-acyclic in_turn-chains (Limit (Some 5) 4) in_turn_plan (root_line (Left 4) ∷ []) refl refl;
  one_line_less = λ h. let w = held two_in_turn (Optimal 5) in_turn_plan cut_off h in absurd (cc w.log.1.1.1.1.1);
  a_child_less = λ h. let w = held two_in_turn (Optimal 5) in_turn_plan open_end h in absurd (cc w.log.1.1.1.1.1.1);
  too_short = λ h. let end = h.best.end in omega arith;
}

break-acyclic : IsAcyclic after_a_break
unfolding job_count successors_of
break-acyclic = ascending after_a_break refl refl

pub break_facts : AfterABreak
unfolding below job_count modes_of mode_of successors_of duration request need capacity budget is_before cap calm least_duration least_need least_work
break_facts = record {
  optimal = hold after_a_break break-acyclic in_turn-chains (Optimal 7) break_plan break_log refl refl;
  limit_0 = hold after_a_break break-acyclic in_turn-chains (Limit (Some 7) 5) break_plan (root_line (Left 5) ∷ []) refl refl;
}

too_much-acyclic : IsAcyclic asks_too_much
unfolding job_count successors_of
too_much-acyclic = ascending asks_too_much refl refl

second_mode-acyclic : IsAcyclic second_mode
unfolding job_count successors_of
second_mode-acyclic = ascending second_mode refl refl

one_unit-acyclic : IsAcyclic one_unit
unfolding job_count successors_of
one_unit-acyclic = ascending one_unit refl refl

short-acyclic : IsAcyclic short_or_cheap
unfolding job_count successors_of
short-acyclic = ascending short_or_cheap refl refl

poor-acyclic : IsAcyclic too_poor
unfolding job_count successors_of
poor-acyclic = ascending too_poor refl refl

two_budgets-acyclic : IsAcyclic two_budgets
unfolding job_count successors_of
two_budgets-acyclic = ascending two_budgets refl refl

zero-acyclic : IsAcyclic zero_lengths
unfolding job_count successors_of
zero-acyclic = (project-from_tests zero_lengths (λ j. slice_index (3 ∷ 2 ∷ 1 ∷ 4 ∷ 0 ∷ []) (j - 1)) refl refl).acyclic

twins-acyclic : IsAcyclic twins
unfolding job_count successors_of
twins-acyclic = ascending twins refl refl

needs-acyclic : IsAcyclic needs_differ
unfolding job_count successors_of
needs-acyclic = ascending needs_differ refl refl

abbrev unit-chains : Chains
unit-chains = by_job ((2 ∷ 5 ∷ []) ∷ (5 ∷ []) ∷ (5 ∷ []) ∷ (5 ∷ []) ∷ [] ∷ [])

abbrev zero-chains : Chains
zero-chains = by_job ((4 ∷ []) ∷ (1 ∷ 4 ∷ []) ∷ (2 ∷ 1 ∷ 4 ∷ []) ∷ [] ∷ [] ∷ [])

abbrev twins-chains : Chains
twins-chains = by_job ((2 ∷ 4 ∷ 6 ∷ []) ∷ (4 ∷ 6 ∷ []) ∷ (4 ∷ 6 ∷ []) ∷ (6 ∷ []) ∷ (6 ∷ []) ∷ [] ∷ [])

-- no job waits for another
abbrev no-chains : Chains
no-chains j = []

pub letters_facts : Letters
unfolding below job_count modes_of mode_of successors_of duration request need capacity budget is_before cap calm least_duration least_need least_work
letters_facts = record {
  capacity = hold asks_too_much too_much-acyclic in_turn-chains Infeasible None too_much_log refl refl;
  worse = hold second_mode second_mode-acyclic in_turn-chains (Optimal 5) in_turn_plan second_mode_log refl refl;
  work = hold one_unit one_unit-acyclic unit-chains (Optimal 6) (Some (at 1 0 ∷ at 1 0 ∷ at 1 2 ∷ at 1 4 ∷ at 1 6 ∷ [])) (root_line (WorkBound 1) ∷ []) refl refl;
  budget = hold short_or_cheap short-acyclic in_turn-chains (Optimal 4) (Some (at 1 0 ∷ at 2 0 ∷ at 2 0 ∷ at 1 4 ∷ [])) short_or_cheap_log refl refl;
  leaf = hold two_budgets two_budgets-acyclic no-chains (Optimal 1) (Some (at 1 0 ∷ at 2 0 ∷ [])) two_budgets_log refl refl;
  left = hold two_budgets two_budgets-acyclic no-chains (Limit None 1) None (root_line (Left 1) ∷ []) refl refl;
  gap = hold too_poor poor-acyclic in_turn-chains Infeasible None (root_line (Budget 1) ∷ []) refl refl;
}

pub citations_facts : Citations
unfolding below job_count modes_of mode_of successors_of duration request need capacity budget is_before cap calm least_duration least_need least_work
citations_facts = record {
  zero_lengths = hold zero_lengths zero-acyclic zero-chains (Optimal 5) (Some (at 1 0 ∷ at 1 0 ∷ at 1 0 ∷ at 1 0 ∷ at 1 3 ∷ [])) zero_lengths_log refl refl;
  earlier = hold twins twins-acyclic twins-chains (Optimal 6) twins_plan twins_log refl refl;
  later = hold twins twins-acyclic twins-chains (Optimal 6) twins_plan twins_later refl refl;
  by_mode = hold needs_differ needs-acyclic twins-chains (Optimal 6) twins_plan (needs_up_to (line 2 2 0 (Cutset 10))) refl refl;
}

-- The plans that the false claims deny.
in_turn-ends : NoneEndsBefore two_in_turn 6 → ⊥
unfolding job_count modes_of mode_of successors_of duration request need capacity budget is_before cap
in_turn-ends none =
    let plan = feasible_test-true two_in_turn (at 1 0 ∷ at 1 0 ∷ at 1 3 ∷ at 1 5 ∷ []) refl in
    let late : 6 ≤ 5 = none (at 1 0 ∷ at 1 0 ∷ at 1 3 ∷ at 1 5 ∷ []) plan in omega arith

twins-feasible : NoneIsFeasible twins → ⊥
unfolding job_count modes_of mode_of successors_of duration request need capacity budget is_before cap
twins-feasible none = none (at 1 0 ∷ at 1 0 ∷ at 1 0 ∷ at 1 1 ∷ at 1 4 ∷ at 1 6 ∷ []) (feasible_test-true twins (at 1 0 ∷ at 1 0 ∷ at 1 0 ∷ at 1 1 ∷ at 1 4 ∷ at 1 6 ∷ []) refl)

pub trust_facts : NumberOnTrust
unfolding below job_count modes_of mode_of successors_of duration request need capacity budget is_before cap calm least_duration least_need least_work
trust_facts = record {
  log = logs_test-true two_in_turn (at_root ∷ []) (root_line (Left 6) ∷ []) refl;
  inner = not_leaf two_in_turn [] refl;
  suffices = (tt, tt);
  served = serve two_in_turn (root_line (Left 6) ∷ []) refl;
  lower = has_lower_test-true (Limit None 6) (root_line (Left 6) ∷ []) refl;
  false_claim = λ c. in_turn-ends c.1;
}

pub citation_facts : CitationOfAny
unfolding below job_count modes_of mode_of successors_of duration request need capacity budget is_before cap calm least_duration least_need least_work
citation_facts = record {
  log = logs_test-true twins (at_root ∷ []) closing_each_other refl;
  allowed = all_allowed_test-true twins twins-acyclic twins-chains Infeasible closing_each_other refl;
  fronts = refl;
  dominated = (dominates_test-true twins two_then_three three_then_two refl, dominates_test-true twins three_then_two two_then_three refl);
  false_claim = λ c. twins-feasible c.1;
}

pub left_out_facts : ChildLeftOut
unfolding below job_count modes_of mode_of successors_of duration request need capacity budget is_before cap calm least_duration least_need least_work
left_out_facts = record {
  allowed = all_allowed_test-true twins twins-acyclic twins-chains Infeasible (root_line Expanded ∷ []) refl;
  served = serve twins (root_line Expanded ∷ []) refl;
  false_claim = λ c. twins-feasible c.1;
}

-- Refusals.

-- the tail bound of job 1 alone is 3
first-tail : (t : ℕ) → IsTailBound two_in_turn (entry_at 1 1 0 ∷ []) t → t ≤ 3
unfolding job_count modes_of mode_of successors_of duration request need capacity budget is_before cap calm least_duration
first-tail t is =
    let own : IsTailBound two_in_turn (entry_at 1 1 0 ∷ []) 3 = tail_bound-by two_in_turn in_turn-acyclic in_turn-chains (entry_at 1 1 0 ∷ []) refl in
    let le = own.greatest t is.attained in omega arith

-- job 3 can't start before job 2 is done
third-early : IsPlacedChild two_in_turn (entry_at 1 1 0 ∷ entry_at 2 1 0 ∷ []) (entry_at 3 1 2) → ⊥
unfolding job_count modes_of mode_of successors_of duration request need capacity budget is_before cap
third-early p = let over : 4 ≤ 3 = p.follows.start.attained.fits 1 2 (omega arith, omega arith) (omega arith) (omega arith) in omega arith

third-placed : IsPlacedChild two_in_turn (entry_at 1 1 0 ∷ entry_at 2 1 0 ∷ []) (entry_at 3 1 3)
unfolding job_count modes_of mode_of successors_of duration request need capacity budget is_before cap calm least_duration least_need least_work
third-placed = placed_test-true two_in_turn (entry_at 1 1 0 ∷ entry_at 2 1 0 ∷ []) 3 1 3 refl

-- job 2 lacks capacity
second-shut : IsShut asks_too_much (entry_at 1 1 0 ∷ []) 2 1 (NoCapacity 1)
unfolding job_count modes_of mode_of successors_of duration request need capacity budget is_before cap
second-shut = shut_test-true asks_too_much (entry_at 1 1 0 ∷ []) 2 1 (NoCapacity 1) refl

-- line 10 isn't expanded
not_expanded : Cites twins (nodes twins cites_itself) 10 three_then_two → ⊥
unfolding below job_count modes_of successors_of is_before
not_expanded c =
    let number = c.number in
    let choice : Choice = record { job = 2; mode = 1 } in
    let cited : record { branch = by_choice (entry_at 1 1 0 ∷ entry_at 3 1 0 ∷ []) choice; line = line 2 1 0 (Cutset 10) } ≡ c.cited = cc in
    absurd (false≢true (subst (λ (n : LogNode). is_expanded n.line ≡ true) (sym cited) c.expanded))

-- line 4 has used more than line 17
needs_more : Cites needs_differ (nodes needs_differ (needs_up_to (line 2 2 0 (Cutset 4)))) 4 used_1 → ⊥
unfolding below job_count modes_of successors_of is_before
needs_more c =
    let number = c.number in
    let choice : Choice = record { job = 3; mode = 1 } in
    let cited : record { branch = by_choice (entry_at 1 1 0 ∷ entry_at 2 1 0 ∷ []) choice; line = line 3 1 0 Expanded } ≡ c.cited = cc in
    let own : Some used_3 ≡ Some c.front = ap front_of cited ∙ c.is_its in
    let front : c.front ≡ used_3 = cc in
    needs_facts.needs_more (subst (λ (A : List Entry). Dominates needs_differ A used_1) front c.dominates)

-- line 16 hasn't
abbrev second_node : LogNode
second_node = let choice : Choice = record { job = 2; mode = 1 } in record { branch = by_choice (entry_at 1 1 0 ∷ entry_at 3 1 0 ∷ []) choice; line = line 2 1 0 (Cutset 4) }

earlier_serves : IsServed needs_differ (nodes needs_differ (needs_up_to (line 2 2 0 (Cutset 4)))) second_node
unfolding below job_count modes_of mode_of successors_of duration request need capacity budget is_before cap calm least_duration least_need least_work
earlier_serves = served_test-true needs_differ (nodes needs_differ (needs_up_to (line 2 2 0 (Cutset 4)))) second_node refl

pub refusals_facts : Refusals
unfolding below job_count modes_of mode_of successors_of duration request need capacity budget is_before cap calm least_duration least_need least_work
refusals_facts = record {
  child =
      let before = wants_test-true two_in_turn in_turn-acyclic in_turn-chains (Optimal 5) (root_line Expanded ∷ line 1 1 0 Expanded ∷ line 2 1 0 Expanded ∷ line 3 1 3 Expanded ∷ []) refl in
      break_law two_in_turn (Optimal 5) (root_line Expanded ∷ line 1 1 0 Expanded ∷ line 2 1 0 Expanded ∷ line 3 1 3 Expanded ∷ []) (line 2 1 2 TailBound ∷ []) (line 3 1 0 Expanded) _ _ wrong_child before
      (inl (λ named. (let job : 3 ≡ 4 = named.0 in omega arith), refl));
  shut =
      let before = wants_test-true asks_too_much too_much-acyclic in_turn-chains Infeasible (root_line Expanded ∷ line 1 1 0 Expanded ∷ []) refl in
      break_law asks_too_much Infeasible (root_line Expanded ∷ line 1 1 0 Expanded ∷ []) [] (line 2 1 0 Expanded) _ _ wrong_fate before
      (inr ((refl, refl), inl (λ said. elim said [ inl no_ ↦ no_ | inr open_ ↦ shut-not_placed asks_too_much (entry_at 1 1 0 ∷ []) 2 1 open_.1.0 (NoCapacity 1) second-shut open_.1.1 ], refl)));
  start =
      let before = wants_test-true two_in_turn in_turn-acyclic in_turn-chains (Optimal 5) (root_line Expanded ∷ line 1 1 0 Expanded ∷ line 2 1 0 Expanded ∷ []) refl in
      break_law two_in_turn (Optimal 5) (root_line Expanded ∷ line 1 1 0 Expanded ∷ line 2 1 0 Expanded ∷ []) [] (line 3 1 2 TailBound) _ _ wrong_child before
      (inr ((refl, refl), inr (inr (refl, (3, third-placed)), inl (third-early, refl))));
  fate =
      let before = wants_test-true two_in_turn in_turn-acyclic in_turn-chains (Optimal 5) (root_line Expanded ∷ []) refl in
      let choice : Choice = record { job = 1; mode = 1 } in
      let parts = line-parts two_in_turn (by_choice [] choice) (line 1 1 0 TailBound) (line_test-true two_in_turn (by_choice [] choice) (line 1 1 0 TailBound) refl) in
      break_law two_in_turn (Optimal 5) (root_line Expanded ∷ []) [] (line 1 1 0 TailBound) _ _ wrong_fate before
      (inr (parts.0, inr (parts.1, inr (parts.2, inl (λ allowed. (let low = first-tail allowed.number allowed.late in let far : 5 ≤ allowed.number = allowed.suffices in omega arith), refl)))));
  many =
      let parts = line-parts two_in_turn at_root (root_line Expanded) (line_test-true two_in_turn at_root (root_line Expanded) refl) in
      inr (parts.0, inr (parts.1, inr (parts.2, inr (not_leaf two_in_turn [] refl, inl (λ few. (let more = few refl in omega arith), refl)))));
  ends = missing_law two_in_turn (Optimal 5) cut_off _ _ (wants_test-true two_in_turn in_turn-acyclic in_turn-chains (Optimal 5) cut_off refl);
  more = surplus_law two_in_turn (Optimal 5) in_turn_log [] (root_line Expanded) (wants_test-true two_in_turn in_turn-acyclic in_turn-chains (Optimal 5) in_turn_log refl);
  citation =
      at_citation (wants_test-true twins twins-acyclic twins-chains (Optimal 6) cites_itself refl)
      (inr (tt, inr (tt, inr (tt, inr (tt, inr (tt, inr (tt, inr (tt, inr (tt, inr (tt, inl (refl, λ c. not_expanded c)))))))))))
      refl;
  dominance =
      at_citation (wants_test-true needs_differ needs-acyclic twins-chains (Optimal 6) (needs_up_to (line 2 2 0 (Cutset 4))) refl)
      (inr (tt, inr (tt, inr (tt, inr (tt, inr (tt, inr (tt, inr (tt, inr (tt, inr (tt, inr (tt, inr (tt, inr (tt, inr (tt, inr (tt, inr (tt, inr (earlier_serves, inl (refl, λ c. needs_more c))))))))))))))))))
      refl;
  lower =
      at_lower (wants_test-true two_in_turn in_turn-acyclic in_turn-chains (Limit (Some 5) 3) after_three refl)
      (serve two_in_turn after_three refl)
      (λ least. let h = left_test-from after_three 3 (In-from_Contains (map (λ (l : LogLine). l.fate) after_three) (Left 3) least.attained) in false≢true h)
      refl refl;
}
