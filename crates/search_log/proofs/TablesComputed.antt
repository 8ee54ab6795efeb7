-- The worked tables, by computing.
use Rattle.std.proofs.Common.{◌≤◌, ◌-◌, true, not, map, Some, ◌≡◌, ℕ, zero, suc, ◌+◌, ◌<◌, inl, inr, refl, sym, ap, subst, ◌∙◌, arith, List, [], ◌∷◌, ◌++◌, length, append_assoc, length-append}
use Rattle.std.specs.Prelude.{slice_index, slice_index_or, slice_get}
use Rattle.rcpsp_model.specs.declared.parts.Entry.{Entry}
use Rattle.rcpsp_model.specs.Project.{job_count, modes_of, mode_of, successors_of, duration, request, need, capacity, budget, is_before, numbers_from, IsAcyclic}
use Rattle.rcpsp_model.specs.Schedule.{cap, calm}
use Rattle.rcpsp_model.specs.Chain.{least_duration}
use Rattle.rcpsp_model.specs.Modes.{least_need, least_work}
use Rattle.rcpsp_model.specs.Tree.{entry_at}
use Rattle.rcpsp_model.specs.Examples.{two_in_turn}
use Rattle.rcpsp_model.proofs.Lists.{In, In-from_Contains}
use Rattle.rcpsp_model.proofs.Tests.{project-from_tests}
use Rattle.rcpsp_model.proofs.BoundTests.{leaf_test, not_leaf, Chains, tail_value}
use Rattle.log_truth.specs.Fates.{late_tail}
use Rattle.log_truth.specs.Log.{child_branches, IsLineAt}
use Rattle.log_truth.specs.Holds.{IsLate}
use Rattle.log_truth.proofs.LineTests.{line_test, line_test-true}
use Rattle.log_truth.proofs.HoldsTests.{late_test, late_test-true}
use Rattle.search_log.specs.Weights.{Each}
use Rattle.search_log.specs.Table.{row_at, says_at, children_of, IsBelow}
use Rattle.search_log.specs.Stands.{line_of, branch_at, HasChildren, closing, RowSuits, Stands}
use Rattle.search_log.specs.Told.{HasNumber, AreNumbered}
use Rattle.search_log.specs.Examples.{in_turn_rows, in_turn_nodes, twins_rows, WorkedTables}

-- the places of a list have the numbers from i + 1 on
abbrev HaveNumbers : List ℕ → ℕ → List ℕ → Type 0
HaveNumbers numbers i [] = Unit {0}
HaveNumbers numbers i (q ∷ order) = (slice_index numbers q ≡ i + 1) × HaveNumbers numbers (i + 1) order

get-behind : (before : List ℕ) (q : ℕ) (order : List ℕ) → slice_get (before ++ q ∷ order) (length before) ≡ Some q
get-behind [] q order = refl
get-behind (x ∷ before) q order = get-behind before q order

numbered-from : (numbers before order : List ℕ) (i : ℕ) → i ≡ length before → HaveNumbers numbers i order → (q : ℕ) → In order q → HasNumber numbers (before ++ order) q
numbered-from numbers before [] i e h q m = absurd m
numbered-from numbers before (x ∷ order) i e h q (inl same) = record {
  index = i;
  number = ap (slice_index numbers) (sym same) ∙ h.0;
  stands = ap (slice_get (before ++ x ∷ order)) e ∙ (get-behind before x order ∙ ap (λ (n : ℕ). Some n) same);
}
numbered-from numbers before (x ∷ order) i e h q (inr m) =
    let n = length-append before (x ∷ []) in
    let r = numbered-from numbers (before ++ x ∷ []) order (i + 1) (omega arith) h.1 q m in
    subst (λ (all : List ℕ). HasNumber numbers all q) (append_assoc before (x ∷ []) order) r

numbered : (numbers order : List ℕ) → HaveNumbers numbers 0 order → AreNumbered numbers order
numbered numbers order h q c = numbered-from numbers [] order 0 refl h q (In-from_Contains order q c)

-- how many jobs are placed at each place
abbrev in_turn_level : ℕ → ℕ
in_turn_level p = slice_index (0 ∷ 1 ∷ 2 ∷ 2 ∷ 3 ∷ 3 ∷ []) p

abbrev twins_level : ℕ → ℕ
twins_level p = slice_index (0 ∷ 1 ∷ 2 ∷ 2 ∷ 3 ∷ 3 ∷ 4 ∷ 4 ∷ 5 ∷ 5 ∷ []) p

in_turn_inside : (p : ℕ) → p < length in_turn_rows → Each (IsBelow in_turn_rows in_turn_level p) (children_of (says_at in_turn_rows p))
in_turn_inside zero l = (record { deeper = omega arith; within = omega arith }, tt)
in_turn_inside (suc zero) l = (record { deeper = omega arith; within = omega arith }, (record { deeper = omega arith; within = omega arith }, tt))
in_turn_inside (suc (suc zero)) l = (record { deeper = omega arith; within = omega arith }, tt)
in_turn_inside (suc (suc (suc zero))) l = (record { deeper = omega arith; within = omega arith }, tt)
in_turn_inside (suc (suc (suc (suc zero)))) l = tt
in_turn_inside (suc (suc (suc (suc (suc zero))))) l = tt
in_turn_inside (suc (suc (suc (suc (suc (suc p)))))) l = absurd (omega arith)

twins_inside : (p : ℕ) → p < length twins_rows → Each (IsBelow twins_rows twins_level p) (children_of (says_at twins_rows p))
twins_inside zero l = (record { deeper = omega arith; within = omega arith }, tt)
twins_inside (suc zero) l = (record { deeper = omega arith; within = omega arith }, (record { deeper = omega arith; within = omega arith }, tt))
twins_inside (suc (suc zero)) l = (record { deeper = omega arith; within = omega arith }, tt)
twins_inside (suc (suc (suc zero))) l = (record { deeper = omega arith; within = omega arith }, tt)
twins_inside (suc (suc (suc (suc zero)))) l = (record { deeper = omega arith; within = omega arith }, (record { deeper = omega arith; within = omega arith }, tt))
twins_inside (suc (suc (suc (suc (suc zero))))) l = tt
twins_inside (suc (suc (suc (suc (suc (suc zero)))))) l = (record { deeper = omega arith; within = omega arith }, tt)
twins_inside (suc (suc (suc (suc (suc (suc (suc zero))))))) l = (record { deeper = omega arith; within = omega arith }, tt)
twins_inside (suc (suc (suc (suc (suc (suc (suc (suc zero)))))))) l = tt
twins_inside (suc (suc (suc (suc (suc (suc (suc (suc (suc zero))))))))) l = tt
twins_inside (suc (suc (suc (suc (suc (suc (suc (suc (suc (suc p)))))))))) l = absurd (omega arith)

-- The table of the two jobs stands, by computing.

in_turn-acyclic : IsAcyclic two_in_turn
unfolding job_count successors_of
in_turn-acyclic = (project-from_tests two_in_turn (λ j. j) refl refl).acyclic

-- a longest chain from each job
abbrev in_turn-chains : Chains
in_turn-chains j = slice_index_or ((2 ∷ 4 ∷ []) ∷ (4 ∷ []) ∷ (4 ∷ []) ∷ [] ∷ []) (j - 1) []

late_by_tail : (F : List Entry) → late_test two_in_turn in_turn-chains F late_tail ≡ true → 5 ≤ tail_value two_in_turn in_turn-chains F → IsLate two_in_turn (closing (Some 5)) F late_tail
late_by_tail F h l = record { number = tail_value two_in_turn in_turn-chains F; late = late_test-true two_in_turn in_turn-acyclic in_turn-chains F late_tail h; suffices = l }

children_from : (F : List Entry) (first count : ℕ) → not (leaf_test two_in_turn F) ≡ true → first + count ≤ length in_turn_nodes → map (branch_at in_turn_nodes) (numbers_from first count) ≡ child_branches two_in_turn F →
    HasChildren two_in_turn in_turn_nodes F first count
children_from F first count h w e = record { inner = not_leaf two_in_turn F h; within = w; children = e }

in_turn_line : (p : ℕ) → line_test two_in_turn (branch_at in_turn_nodes p) (line_of [] (row_at in_turn_rows p)) ≡ true → IsLineAt two_in_turn (branch_at in_turn_nodes p) (line_of [] (row_at in_turn_rows p))
in_turn_line p h = line_test-true two_in_turn (branch_at in_turn_nodes p) (line_of [] (row_at in_turn_rows p)) h

in_turn_suits : (p : ℕ) → p < length in_turn_rows → RowSuits two_in_turn (closing (Some 5)) in_turn_nodes p (row_at in_turn_rows p)
unfolding job_count modes_of mode_of successors_of duration request need capacity budget is_before cap calm least_duration least_need least_work
in_turn_suits zero l = record { line = in_turn_line 0 refl; front = refl; says = children_from [] 1 1 refl (omega arith) refl }
in_turn_suits (suc zero) l = record { line = in_turn_line 1 refl; front = refl; says = children_from (entry_at 1 1 0 ∷ []) 2 2 refl (omega arith) refl }
in_turn_suits (suc (suc zero)) l = record { line = in_turn_line 2 refl; front = refl; says = children_from (entry_at 1 1 0 ∷ entry_at 2 1 0 ∷ []) 5 1 refl (omega arith) refl }
in_turn_suits (suc (suc (suc zero))) l = record { line = in_turn_line 3 refl; front = refl; says = children_from (entry_at 1 1 0 ∷ entry_at 3 1 0 ∷ []) 4 1 refl (omega arith) refl }
in_turn_suits (suc (suc (suc (suc zero)))) l = record { line = in_turn_line 4 refl; front = refl; says = late_by_tail (entry_at 1 1 0 ∷ entry_at 3 1 0 ∷ entry_at 2 1 2 ∷ []) refl (omega arith) }
in_turn_suits (suc (suc (suc (suc (suc zero))))) l = record { line = in_turn_line 5 refl; front = refl; says = late_by_tail (entry_at 1 1 0 ∷ entry_at 2 1 0 ∷ entry_at 3 1 3 ∷ []) refl (omega arith) }
in_turn_suits (suc (suc (suc (suc (suc (suc p)))))) l = absurd (omega arith)

in_turn_stands : Stands two_in_turn (closing (Some 5)) in_turn_rows in_turn_nodes [] []
in_turn_stands = record {
  some = omega arith;
  size = refl;
  root = refl;
  account = λ h. omega arith;
  waits = λ h. omega arith;
  rows = in_turn_suits;
  each_fill = tt;
  each_waiting = tt;
}

pub worked_tables : WorkedTables
worked_tables = record {
  stands = in_turn_stands;
  whole_in_turn = record { root = omega arith; account = λ h. omega arith; level = in_turn_level; inside = in_turn_inside };
  in_turn = record {
    numbers = 1 ∷ 2 ∷ 3 ∷ 5 ∷ 6 ∷ 4 ∷ [];
    order = 0 ∷ 1 ∷ 2 ∷ 5 ∷ 3 ∷ 4 ∷ [];
    walk = (refl, (refl, (refl, (refl, (refl, (refl, refl))))));
    numbered = numbered (1 ∷ 2 ∷ 3 ∷ 5 ∷ 6 ∷ 4 ∷ []) (0 ∷ 1 ∷ 2 ∷ 5 ∷ 3 ∷ 4 ∷ []) (refl, (refl, (refl, (refl, (refl, (refl, tt))))));
    are = refl;
  };
  whole_twins = record { root = omega arith; account = λ h. omega arith; level = twins_level; inside = twins_inside };
  twins = record {
    numbers = 1 ∷ 2 ∷ 3 ∷ 5 ∷ 6 ∷ 4 ∷ 7 ∷ 9 ∷ 8 ∷ 10 ∷ [];
    order = 0 ∷ 1 ∷ 2 ∷ 5 ∷ 3 ∷ 4 ∷ 6 ∷ 8 ∷ 7 ∷ 9 ∷ [];
    walk = (refl, (refl, (refl, (refl, (refl, (refl, (refl, (refl, (refl, (refl, refl))))))))));
    numbered = numbered (1 ∷ 2 ∷ 3 ∷ 5 ∷ 6 ∷ 4 ∷ 7 ∷ 9 ∷ 8 ∷ 10 ∷ []) (0 ∷ 1 ∷ 2 ∷ 5 ∷ 3 ∷ 4 ∷ 6 ∷ 8 ∷ 7 ∷ 9 ∷ [])
        (refl, (refl, (refl, (refl, (refl, (refl, (refl, (refl, (refl, (refl, tt))))))))));
    are = refl;
  };
}
