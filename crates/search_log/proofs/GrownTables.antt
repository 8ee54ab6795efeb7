-- A table from its first row on, as rows come.
use Rattle.std.proofs.Common.{◌≡◌, ℕ, zero, suc, ◌+◌, ◌-◌, ◌<◌, ◌≤◌, inl, inr, refl, sym, ap, subst, ◌∙◌, arith, List, [], ◌∷◌, ◌++◌, length, length-append, append_assoc, map, Option, Some, None}
use Rattle.std.proofs.lemmas.Bool.{cases_lt}
use Rattle.std.proofs.lemmas.List.{get_or_at, get_or_append_left, get_or-append_right}
use Rattle.rcpsp_model.specs.declared.parts.Entry.{Entry}
use Rattle.rcpsp_model.specs.declared.parts.Shut.{Shut as Why}
use Rattle.rcpsp_model.specs.declared.parts.Shut.TheVariants.{NoCapacity, NoBudget, Inefficient}
use Rattle.rcpsp_model.specs.declared.parts.Verdict.{Verdict}
use Rattle.rcpsp_model.specs.Project.{Project, numbers_from}
use Rattle.rcpsp_model.specs.Tree.{Choice, entry_at, LeavesBudgets, IsShut, IsPlacedChild}
use Rattle.rcpsp_model.specs.Bounds.{IsBudgetGap}
use Rattle.log_truth.specs.Fates.{saying}
use Rattle.log_truth.specs.Log.{Branch, front_at, IsShutSaying, IsLineAt}
use Rattle.search_log.specs.declared.row.RowFate.TheVariants.{Open, Shut}
use Rattle.search_log.specs.declared.row.Row.{Row}
use Rattle.search_log.specs.declared.row.Fill.{Fill}
use Rattle.search_log.specs.Weights.{total, over, Each}
use Rattle.search_log.specs.Fates.{RowSaying, row_open, row_expanded, row_late, row_cites, row_shut, row_saying, shut_fate}
use Rattle.search_log.specs.Table.{no_row, row_at, says_row, children_of}
use Rattle.search_log.specs.Stands.{IsNoLater, line_of, TreeNode, no_node, node_at, branch_at, place_front, HasChildren, searching, Suits, RowSuits, FillSuits, IsAtPlace, if_open, root_row, root_node, shut_root}
use Rattle.search_log.specs.Laws.{StartLaw, GapLaw, child_node, child_row, ChildRowsLaw, ChildPlacesLaw, GrowLaw, GatherLaw}
use Rattle.search_log.proofs.Sums.{total-append, Each-append, Each-weaker, over-append}
use Rattle.search_log.proofs.VerdictChanges.{searching-suits, searching-row}

root-rows : (P : Project) (v : Verdict) → LeavesBudgets P [] → (p : ℕ) → p < length (root_row Open ∷ []) → RowSuits P v (root_node ∷ []) p (row_at (root_row Open ∷ []) p)
root-rows P v b zero l = record { line = record { job = refl; mode = refl; start = refl; fate = b }; front = refl; says = tt }
root-rows P v b (suc p) l = absurd (omega arith)

pub start_law : StartLaw
start_law P v b = record {
  some = omega arith;
  size = refl;
  root = refl;
  account = λ h. omega arith;
  waits = λ h. omega arith;
  rows = root-rows P v b;
  each_fill = tt;
  each_waiting = (refl, tt);
}

gap-rows : (P : Project) (v : Verdict) (l : ℕ) → IsBudgetGap P [] l → (p : ℕ) → p < length (root_row (Shut (NoBudget l)) ∷ []) → RowSuits P v (shut_root ∷ []) p (row_at (root_row (Shut (NoBudget l)) ∷ []) p)
gap-rows P v l b zero w = record { line = record { job = refl; mode = refl; start = refl; fate = b }; front = refl; says = tt }
gap-rows P v l b (suc p) w = absurd (omega arith)

pub gap_law : GapLaw
gap_law P v l b = record {
  some = omega arith;
  size = refl;
  root = refl;
  account = λ h. omega arith;
  waits = λ h. omega arith;
  rows = gap-rows P v l b;
  each_fill = tt;
  each_waiting = tt;
}

-- More nodes.

branches-more : (ns more : List TreeNode) (i n : ℕ) → i + n ≤ length ns → map (branch_at (ns ++ more)) (numbers_from i n) ≡ map (branch_at ns) (numbers_from i n)
branches-more ns more i zero l = refl
branches-more ns more i (suc n) l =
    let own : branch_at (ns ++ more) i ≡ branch_at ns i = ap (λ (x : TreeNode). x.branch) (get_or_append_left ns more no_node i (omega arith)) in
    let ih = branches-more ns more (i + 1) n (omega arith) in
    ap (λ (x : Branch). x ∷ map (branch_at (ns ++ more)) (numbers_from (i + 1) n)) own ∙ ap (λ (x : List Branch). branch_at ns i ∷ x) ih

pub children-more : (P : Project) (ns more : List TreeNode) (F : List Entry) (first count : ℕ) → HasChildren P ns F first count → HasChildren P (ns ++ more) F first count
children-more P ns more F first count is =
    let w = is.within in
    let n = length-append ns more in
    record { inner = is.inner; within = omega arith; children = branches-more ns more first count w ∙ is.children }

suits-more : (P : Project) (v : Verdict) (ns more : List TreeNode) (o : Option (List Entry)) (s : RowSaying) → Suits P v ns o s → Suits P v (ns ++ more) o s
suits-more P v ns more (Some F) row_open is = tt
suits-more P v ns more (Some F) (row_expanded first count) is = children-more P ns more F first count is
suits-more P v ns more (Some F) (row_late reason) is = is
suits-more P v ns more (Some F) (row_cites q) is = tt
suits-more P v ns more (Some F) (row_shut why) is = is
suits-more P v ns more None row_open is = is
suits-more P v ns more None (row_expanded first count) is = is
suits-more P v ns more None (row_late reason) is = is
suits-more P v ns more None (row_cites q) is = is
suits-more P v ns more None (row_shut why) is = tt

pub row-more : (P : Project) (v : Verdict) (ns more : List TreeNode) (p : ℕ) (r : Row) → p < length ns → RowSuits P v ns p r → RowSuits P v (ns ++ more) p r
row-more P v ns more p r l is =
    let same : node_at (ns ++ more) p ≡ node_at ns p = get_or_append_left ns more no_node p l in
    let says = suits-more P v ns more (place_front ns p) (says_row r) is.says in
    record {
      line = subst (λ (n : TreeNode). IsLineAt P n.branch (line_of [] r)) (sym same) is.line;
      front = subst (λ (n : TreeNode). front_at n.branch (line_of [] r) ≡ n.front) (sym same) is.front;
      says = subst (λ (n : TreeNode). Suits P v (ns ++ more) n.front (says_row r)) (sym same) says;
    }

-- The rows of children.

placed-row : (P : Project) (v : Verdict) (ns : List TreeNode) (p : ℕ) (F : List Entry) (c : Choice) (t : ℕ) → node_at ns p ≡ child_node F c (Some t) → IsPlacedChild P F (entry_at c.job c.mode t) →
    RowSuits P v ns p (child_row c (Some t) Open)
placed-row P v ns p F c t e is = record {
  line = subst (λ (n : TreeNode). IsLineAt P n.branch (line_of [] (child_row c (Some t) Open))) (sym e) (record { job = refl; mode = refl; fate = (is, refl) });
  front = subst (λ (n : TreeNode). front_at n.branch (line_of [] (child_row c (Some t) Open)) ≡ n.front) (sym e) refl;
  says = subst (λ (n : TreeNode). Suits P v ns n.front row_open) (sym e) tt;
}

shut-saying : (P : Project) (F : List Entry) (c : Choice) (why : Why) → IsShut P F c.job c.mode why → IsShutSaying P F c (saying (shut_fate why))
shut-saying P F c (NoCapacity k) is = is
shut-saying P F c (NoBudget l) is = is
shut-saying P F c (Inefficient m) is = is

shut-row : (P : Project) (v : Verdict) (ns : List TreeNode) (p : ℕ) (F : List Entry) (c : Choice) (why : Why) → node_at ns p ≡ child_node F c None → IsShut P F c.job c.mode why →
    RowSuits P v ns p (child_row c None (Shut why))
shut-row P v ns p F c why e is = record {
  line = subst (λ (n : TreeNode). IsLineAt P n.branch (line_of [] (child_row c None (Shut why)))) (sym e) (record { job = refl; mode = refl; fate = shut-saying P F c why is });
  front = subst (λ (n : TreeNode). front_at n.branch (line_of [] (child_row c None (Shut why))) ≡ n.front) (sym e) refl;
  says = subst (λ (n : TreeNode). Suits P v ns n.front (row_shut why)) (sym e) tt;
}

pub child_rows_law : ChildRowsLaw
child_rows_law P v ns p F c = record { placed = placed-row P v ns p F c; shut = shut-row P v ns p F c }

branches-behind : (before more : List TreeNode) (i : ℕ) → i ≡ length before → map (branch_at (before ++ more)) (numbers_from i (length more)) ≡ map (λ n. n.branch) more
branches-behind before [] i e = refl
branches-behind before (n ∷ more) i e =
    let own : branch_at (before ++ n ∷ more) i ≡ n.branch = ap (λ (x : TreeNode). x.branch) (get_or_at before n more no_node i (sym e)) in
    let len = length-append before (n ∷ []) in
    let ih = subst (λ (ns : List TreeNode). map (branch_at ns) (numbers_from (i + 1) (length more)) ≡ map (λ n. n.branch) more) (append_assoc before (n ∷ []) more)
    (branches-behind (before ++ n ∷ []) more (i + 1) (omega arith)) in
    ap (λ (x : Branch). x ∷ map (branch_at (before ++ n ∷ more)) (numbers_from (i + 1) (length more))) own ∙ ap (λ (x : List Branch). n.branch ∷ x) ih

pub child_places_law : ChildPlacesLaw
child_places_law P ns more F inner e =
    let len = length-append ns more in
    record { inner = inner; within = omega arith; children = branches-behind ns more (length ns) refl ∙ e }

over-along : {X : Type 0} (g : ℕ → X → ℕ) (k m : ℕ) (xs : List X) → k ≡ m → over g k xs ≡ over g m xs
over-along g k m xs e = ap (λ (n : ℕ). over g n xs) e

pub grow_law : GrowLaw
grow_law P start best T grown ns more ws left fills s l g =
    let some = s.some in
    let size = s.size in
    let new = g.size in
    let lt = length-append T grown in
    let ln = length-append ns more in
    let base : 0 + length T ≡ length T = omega arith in
    record {
      some = omega arith;
      size = omega arith;
      root = ap (λ (n : TreeNode). n.branch) (get_or_append_left ns more no_node 0 (omega arith)) ∙ s.root;
      account = λ h.
          let a = s.account h in
          let b = g.account h in
          let c = over-append (λ k (r : Row). h k) 0 T grown in
          let d = over-append (λ k r. total h (children_of (says_row r))) 0 T grown in
          let x = over-along (λ k (r : Row). h k) (0 + length T) (length T) grown base in
          let y = over-along (λ k r. total h (children_of (says_row r))) (0 + length T) (length T) grown base in
          omega arith;
      waits = λ h.
          let a = s.waits h in
          let b = g.waits h in
          let c = over-append (λ k r. if_open (says_row r) (h k)) 0 T grown in
          let x = over-along (λ k r. if_open (says_row r) (h k)) (0 + length T) (length T) grown base in
          omega arith;
      rows = λ p w. elim (cases_lt p (length T)) [
        | inl old ↦ (let at : row_at (T ++ grown) p ≡ row_at T p = get_or_append_left T grown no_row p old in
            subst (λ (r : Row). RowSuits P (searching best) (ns ++ more) p r) (sym at)
            (row-more P (searching best) ns more p (row_at T p) (omega arith) (searching-row P start best ns p (row_at T p) l (s.rows p old))))
        | inr fresh ↦ (let i = p - length T in
            let at : row_at (T ++ grown) p ≡ row_at grown i = get_or-append_right T grown (length T) p no_row refl fresh in
            let place : length T + i ≡ p = omega arith in
            subst (λ (r : Row). RowSuits P (searching best) (ns ++ more) p r) (sym at)
            (subst (λ (x : ℕ). RowSuits P (searching best) (ns ++ more) x (row_at grown i)) place (g.rows i (omega arith))))
      ];
      each_fill = g.each_fill;
      each_waiting = g.each_left;
    }

-- A fill that is right stays so with more nodes and a lesser end.
fill-more : (P : Project) (first best : Option ℕ) (ns more : List TreeNode) (f : Fill) → IsNoLater first best → FillSuits P (searching first) ns f → FillSuits P (searching best) (ns ++ more) f
fill-more P first best ns more f l is =
    let w = is.within in
    let len = length-append ns more in
    let same : place_front (ns ++ more) f.place ≡ place_front ns f.place = ap (λ (n : TreeNode). n.front) (get_or_append_left ns more no_node f.place w) in
    let later = searching-suits P first best ns (place_front ns f.place) (row_saying f.fate) l is.says in
    record {
      within = omega arith;
      closed = is.closed;
      says = subst (λ (o : Option (List Entry)). Suits P (searching best) (ns ++ more) o (row_saying f.fate)) (sym same) (suits-more P (searching best) ns more (place_front ns f.place) (row_saying f.fate) later);
    }

pub gather_law : GatherLaw
gather_law P first best T one two ns more most ws between left fills others size l a b =
    let na = a.size in
    let nb = b.size in
    let lr = length-append one two in
    let ln = length-append more most in
    let lt = length-append T one in
    let lm = length-append ns more in
    let assoc = append_assoc ns more most in
    record {
      size = omega arith;
      account = λ h.
          let x = a.account h in
          let y = b.account h in
          let c = over-append (λ k (r : Row). h k) (length T) one two in
          let d = over-append (λ k r. total h (children_of (says_row r))) (length T) one two in
          let e = total-append (λ f. total h (children_of (row_saying f.fate))) fills others in
          let u = over-along (λ k (r : Row). h k) (length (T ++ one)) (length T + length one) two lt in
          let v = over-along (λ k r. total h (children_of (says_row r))) (length (T ++ one)) (length T + length one) two lt in
          omega arith;
      waits = λ h.
          let x = a.waits h in
          let y = b.waits h in
          let c = over-append (λ k r. if_open (says_row r) (h k)) (length T) one two in
          let e = total-append (λ f. h f.place) fills others in
          let u = over-along (λ k r. if_open (says_row r) (h k)) (length (T ++ one)) (length T + length one) two lt in
          omega arith;
      rows = λ i w. elim (cases_lt i (length one)) [
        | inl old ↦ (let at : row_at (one ++ two) i ≡ row_at one i = get_or_append_left one two no_row i old in
            subst (λ (x : List TreeNode). RowSuits P (searching best) x (length T + i) (row_at (one ++ two) i)) assoc
            (subst (λ (r : Row). RowSuits P (searching best) ((ns ++ more) ++ most) (length T + i) r) (sym at)
            (row-more P (searching best) (ns ++ more) most (length T + i) (row_at one i) (omega arith)
            (searching-row P first best (ns ++ more) (length T + i) (row_at one i) l (a.rows i old)))))
        | inr fresh ↦ (let k = i - length one in
            let at : row_at (one ++ two) i ≡ row_at two k = get_or-append_right one two (length one) i no_row refl fresh in
            let place : length (T ++ one) + k ≡ length T + i = omega arith in
            subst (λ (x : List TreeNode). RowSuits P (searching best) x (length T + i) (row_at (one ++ two) i)) assoc
            (subst (λ (r : Row). RowSuits P (searching best) ((ns ++ more) ++ most) (length T + i) r) (sym at)
            (subst (λ (x : ℕ). RowSuits P (searching best) ((ns ++ more) ++ most) x (row_at two k)) place (b.rows k (omega arith)))))
      ];
      each_fill = subst (λ (x : List TreeNode). Each (FillSuits P (searching best) x) (fills ++ others)) assoc
          (Each-append (FillSuits P (searching best) ((ns ++ more) ++ most)) fills others
          (Each-weaker (FillSuits P (searching first) (ns ++ more)) (FillSuits P (searching best) ((ns ++ more) ++ most)) fills (λ f is. fill-more P first best (ns ++ more) most f l is) a.each_fill)
          b.each_fill);
      each_left = subst (λ (x : List TreeNode). Each (IsAtPlace x) left) assoc b.each_left;
    }
