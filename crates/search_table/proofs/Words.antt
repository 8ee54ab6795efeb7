-- The words after a step on one of them.
use Rattle.std.proofs.Common.{◌≡◌, ◌≢◌, ℕ, ◌+◌, ◌*◌, ◌≤◌, List, length, get_or, set, sym, ap, ◌∙◌, subst, arith, length-set, get_or-set_same, get_or-set_other}
use mathlib.Core.Logic.{dite}
use native.Mathlib.Decide.{ℕ_discrete}
use Rattle.atomic_table.specs.Table.{State, keeps, stepped}
use Rattle.search_table.specs.declared.view.PassView.{PassView}
use Rattle.search_table.specs.declared.view.RoundTerms.{RoundTerms}
use Rattle.search_table.specs.Rule.{KeepsRound}
use Rattle.search_table.specs.CountRule.{IsWorker, KeepsCounts}
use Rattle.search_table.specs.BetweenSteps.{count_in, HoldsBetweenSteps}
use Rattle.search_table.proofs.CountSteps.{KeepsCounts-same}

abbrev pub Table : Type 0
Table = State (Unit {0}) PassView

-- a step on the best or on the tickets leaves the counts
counts_stay : (k : RoundTerms) (ws : List ℕ) (i n : ℕ) (vs : List PassView) → i ≤ 8 → KeepsCounts k.workers (count_in ws) vs → KeepsCounts k.workers (count_in (set ws i n)) vs
counts_stay k ws i n vs low r = KeepsCounts-same k.workers (count_in ws) (count_in (set ws i n)) vs r (λ q pos. get_or-set_other ws i (8 + 8 * q) n 0 (omega arith))

pub best_becomes : (k : RoundTerms) (s : Table) (n id : ℕ) (c : List (ℕ × Unit {0})) (w : PassView) → length s.words ≡ 16 + 8 * k.workers → KeepsRound k n (get_or s.words 8 0) (set s.views id w) → KeepsCounts k.workers (count_in s.words) (set s.views id w)
    → HoldsBetweenSteps k (stepped s 0 n id c w keeps)
best_becomes k s n id c w wide r counts = record {
  words = length-set s.words 0 n ∙ wide;
  round = subst (λ (z : ℕ × ℕ). KeepsRound k z.0 z.1 (set s.views id w)) (λ i. (sym (get_or-set_same s.words 0 n 0 (omega arith)) i, sym (get_or-set_other s.words 0 8 n 0 (omega arith)) i)) r;
  counts = counts_stay k s.words 0 n (set s.views id w) (omega arith) counts;
}

pub tickets_become : (k : RoundTerms) (s : Table) (n id : ℕ) (c : List (ℕ × Unit {0})) (w : PassView) → length s.words ≡ 16 + 8 * k.workers → KeepsRound k (get_or s.words 0 0) n (set s.views id w) → KeepsCounts k.workers (count_in s.words) (set s.views id w)
    → HoldsBetweenSteps k (stepped s 8 n id c w keeps)
tickets_become k s n id c w wide r counts = record {
  words = length-set s.words 8 n ∙ wide;
  round = subst (λ (z : ℕ × ℕ). KeepsRound k z.0 z.1 (set s.views id w)) (λ i. (sym (get_or-set_other s.words 8 0 n 0 (omega arith)) i, sym (get_or-set_same s.words 8 n 0 (omega arith)) i)) r;
  counts = counts_stay k s.words 8 n (set s.views id w) (omega arith) counts;
}

pub count_becomes : (k : RoundTerms) (s : Table) (n id worker : ℕ) (c : List (ℕ × Unit {0})) (w : PassView) → length s.words ≡ 16 + 8 * k.workers → 1 ≤ worker → KeepsRound k (get_or s.words 0 0) (get_or s.words 8 0) (set s.views id w)
    → KeepsCounts k.workers (count_in (set s.words (8 + 8 * worker) n)) (set s.views id w) → HoldsBetweenSteps k (stepped s (8 + 8 * worker) n id c w keeps)
count_becomes k s n id worker c w wide low r counts = record {
  words = length-set s.words (8 + 8 * worker) n ∙ wide;
  round = subst (λ (z : ℕ × ℕ). KeepsRound k z.0 z.1 (set s.views id w))
      (λ i. (sym (get_or-set_other s.words (8 + 8 * worker) 0 n 0 (omega arith)) i, sym (get_or-set_other s.words (8 + 8 * worker) 8 n 0 (omega arith)) i)) r;
  counts = counts;
}

-- the counts after one of them became n
pub count_here : (k : RoundTerms) (ws : List ℕ) (worker n : ℕ) → length ws ≡ 16 + 8 * k.workers → IsWorker k.workers worker → count_in (set ws (8 + 8 * worker) n) worker ≡ n
count_here k ws worker n wide is = let high = is.high in get_or-set_same ws (8 + 8 * worker) n 0 (omega arith)

pub count_else : (ws : List ℕ) (worker n other : ℕ) → other ≢ worker → count_in (set ws (8 + 8 * worker) n) other ≡ count_in ws other
count_else ws worker n other ne = get_or-set_other ws (8 + 8 * worker) (8 + 8 * other) n 0 (λ e. ne (omega arith))

-- a count becomes what it was
pub count_again : (k : RoundTerms) (ws : List ℕ) (worker : ℕ) (vs : List PassView) → length ws ≡ 16 + 8 * k.workers → IsWorker k.workers worker → KeepsCounts k.workers (count_in ws) vs
    → KeepsCounts k.workers (count_in (set ws (8 + 8 * worker) (count_in ws worker))) vs
count_again k ws worker vs wide is r = KeepsCounts-same k.workers (count_in ws) (count_in (set ws (8 + 8 * worker) (count_in ws worker))) vs r (λ q _. dite (ℕ_discrete q worker)
    (λ e. ap (count_in (set ws (8 + 8 * worker) (count_in ws worker))) e ∙ count_here k ws worker (count_in ws worker) wide is ∙ ap (count_in ws) (sym e))
    (λ ne. count_else ws worker (count_in ws worker) q ne))
