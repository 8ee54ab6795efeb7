-- The nodes of a table, and what came on it.
use Rattle.std.proofs.Common.{◌≡◌, ℕ, ◌+◌, ◌<◌, inl, inr, ap, ◌∙◌, List, ◌++◌, length, Option, Some, None}
use Rattle.std.proofs.lemmas.Bool.{cases_lt}
use Rattle.std.proofs.lemmas.List.{get_or_append_left, get_or_past}
use Rattle.rcpsp_model.specs.declared.parts.Entry.{Entry}
use Rattle.rcpsp_model.specs.Project.{Project}
use Rattle.search_log.specs.declared.row.Row.{Row}
use Rattle.search_log.specs.declared.row.Fill.{Fill}
use Rattle.search_log.specs.Fates.{row_saying}
use Rattle.search_log.specs.Table.{row_at}
use Rattle.search_log.specs.Stands.{TreeNode, no_node, place_front, searching, IsNoLater, FillSuits, Waiting, Grows}
use Rattle.search_log.proofs.Sums.{Each-weaker}
use Rattle.search_log.proofs.VerdictChanges.{searching-suits, searching-row}

-- a place that has a front is one of the nodes
pub node-inside : (ns : List TreeNode) (p : ℕ) (F : List Entry) → place_front ns p ≡ Some F → p < length ns
node-inside ns p F e = elim (cases_lt p (length ns)) [
  | inl l ↦ l
  | inr past ↦ (let none : place_front ns p ≡ None = ap (λ (n : TreeNode). n.front) (get_or_past ns p no_node past) in absurd cc)
]

pub front-more : (ns more : List TreeNode) (p : ℕ) (F : List Entry) → place_front ns p ≡ Some F → place_front (ns ++ more) p ≡ Some F
front-more ns more p F e = ap (λ (n : TreeNode). n.front) (get_or_append_left ns more no_node p (node-inside ns p F e)) ∙ e

-- no node is visited, and the best may fall
pub grows-later : (P : Project) (first best : Option ℕ) (T grown : List Row) (ns more : List TreeNode) (waiting left : List Waiting) (fills : List Fill) → IsNoLater first best →
    Grows P (searching first) T ns waiting grown more fills left → Grows P (searching best) T ns waiting grown more fills left
grows-later P first best T grown ns more waiting left fills later g = record {
  size = g.size;
  account = g.account;
  waits = g.waits;
  rows = λ i l. searching-row P first best (ns ++ more) (length T + i) (row_at grown i) later (g.rows i l);
  each_fill = Each-weaker (FillSuits P (searching first) (ns ++ more)) (FillSuits P (searching best) (ns ++ more)) fills
      (λ x is. record { within = is.within; closed = is.closed; says = searching-suits P first best (ns ++ more) (place_front (ns ++ more) x.place) (row_saying x.fate) later is.says }) g.each_fill;
  each_left = g.each_left;
}
