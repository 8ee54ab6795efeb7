-- Filling a table.
use Rattle.std.proofs.Common.{◌≡◌, ℕ, ◌+◌, ◌<◌, inl, inr, refl, sym, ap, subst, ◌∙◌, arith, List, [], ◌∷◌, length, length-set, get_or-set_same, get_or-set_other}
use Rattle.std.proofs.lemmas.Bool.{cases_eq}
use Rattle.rcpsp_model.specs.declared.parts.Verdict.{Verdict}
use Rattle.rcpsp_model.specs.Project.{Project}
use Rattle.search_log.specs.declared.row.Row.{Row}
use Rattle.search_log.specs.declared.row.Fill.{Fill}
use Rattle.search_log.specs.Weights.{total}
use Rattle.search_log.specs.Fates.{RowSaying, row_open, row_expanded, row_late, row_cites, row_shut, row_saying}
use Rattle.search_log.specs.Table.{no_row, row_at, says_row, says_at, children_of}
use Rattle.search_log.specs.Stands.{TreeNode, place_front, branch_at, Suits, RowSuits, IsClosed, FillSuits, Waiting, if_open, open_weight, Stands, filled, fill_row}
use Rattle.search_log.specs.Laws.{FillsLaw}
use Rattle.search_log.proofs.Sums.{over-set, over-at, only_at, only_at-same, only_at-other}
use Rattle.search_log.proofs.RowLines.{suits-unshut, filled-line, filled-front}

is-open : (s : RowSaying) → 0 < if_open s 1 → s ≡ row_open
is-open row_open l = refl
is-open (row_expanded first count) l = absurd (omega arith)
is-open (row_late reason) l = absurd (omega arith)
is-open (row_cites q) l = absurd (omega arith)
is-open (row_shut why) l = absurd (omega arith)

if_open-zero : (s : RowSaying) → if_open s 0 ≡ 0
if_open-zero row_open = refl
if_open-zero (row_expanded first count) = refl
if_open-zero (row_late reason) = refl
if_open-zero (row_cites q) = refl
if_open-zero (row_shut why) = refl

pub if_open-closed : (s : RowSaying) (n : ℕ) → IsClosed s → if_open s n ≡ 0
if_open-closed row_open n c = absurd c
if_open-closed (row_expanded first count) n c = refl
if_open-closed (row_late reason) n c = refl
if_open-closed (row_cites q) n c = refl
if_open-closed (row_shut why) n c = refl

closed-from_none : (s : RowSaying) → if_open s 1 ≡ 0 → IsClosed s
closed-from_none row_open e = absurd (omega arith)
closed-from_none (row_expanded first count) e = tt
closed-from_none (row_late reason) e = tt
closed-from_none (row_cites q) e = tt
closed-from_none (row_shut why) e = tt

-- the row at a place, weighed alone
open-at : (T : List Row) (p : ℕ) → p < length T → open_weight (only_at p) T ≡ if_open (says_at T p) 1
open-at T p l =
    over-at no_row (λ k r. if_open (says_row r) (only_at p k)) T p l (λ q r n. ap (if_open (says_row r)) (only_at-other p q n) ∙ if_open-zero (says_row r))
    ∙ ap (if_open (says_at T p)) (only_at-same p)

-- the row of the next fill lies in the table and is open
pub record IsOpenAt (T : List Row) (p : ℕ) : Type 0 where
  pub within : p < length T
  pub is : says_at T p ≡ row_open

pub fill-open : (P : Project) (v : Verdict) (T : List Row) (ns : List TreeNode) (f : Fill) (fs : List Fill) (ws : List Waiting) → Stands P v T ns (f ∷ fs) ws → IsOpenAt T f.place
fill-open P v T ns f fs ws s =
    let inside : f.place < length ns = s.each_fill.0.within in
    let size = s.size in
    let l : f.place < length T = omega arith in
    let a = open-at T f.place l in
    let b = s.waits (only_at f.place) in
    let c = only_at-same f.place in
    record { within = l; is = is-open (says_at T f.place) (omega arith) }

filled-suits : (P : Project) (v : Verdict) (ns : List TreeNode) (f : Fill) (r : Row) → says_row r ≡ row_open → RowSuits P v ns f.place r → FillSuits P v ns f → RowSuits P v ns f.place (filled r f.fate)
filled-suits P v ns f r e is new =
    let was : Suits P v ns (place_front ns f.place) row_open = subst (λ (x : RowSaying). Suits P v ns (place_front ns f.place) x) e is.says in
    let unshut = suits-unshut P v v ns (place_front ns f.place) (row_saying f.fate) was new.says in
    record {
      line = filled-line P (branch_at ns f.place) r f.fate e unshut is.line;
      front = filled-front (branch_at ns f.place) r f.fate e unshut ∙ is.front;
      says = new.says;
    }

-- the first fill is made
pub filled-one : (P : Project) (v : Verdict) (T : List Row) (ns : List TreeNode) (f : Fill) (fs : List Fill) (ws : List Waiting) → Stands P v T ns (f ∷ fs) ws → Stands P v (fill_row T f) ns fs ws
filled-one P v T ns f fs ws s =
    let o = fill-open P v T ns f fs ws s in
    let p = f.place in
    let old : Row = row_at T p in
    let new : Row = filled old f.fate in
    let n = length-set T p new in
    let some = s.some in
    let size = s.size in
    let e : 0 + p ≡ p = omega arith in
    record {
      some = omega arith;
      size = omega arith;
      root = s.root;
      account = λ h.
          let a = s.account h in
          let b = over-set no_row (λ k (r : Row). h k) 0 T p new o.within in
          let c = over-set no_row (λ k r. total h (children_of (says_row r))) 0 T p new o.within in
          let d : total h (children_of (says_row old)) ≡ 0 = ap (λ (x : RowSaying). total h (children_of x)) o.is in
          omega arith;
      waits = λ h.
          let a = s.waits h in
          let b = over-set no_row (λ k r. if_open (says_row r) (h k)) 0 T p new o.within in
          let c : if_open (says_row old) (h (0 + p)) ≡ h (0 + p) = ap (λ (x : RowSaying). if_open x (h (0 + p))) o.is in
          let d = if_open-closed (row_saying f.fate) (h (0 + p)) s.each_fill.0.closed in
          let own : h (0 + p) ≡ h p = ap h e in
          omega arith;
      rows = λ q l.
          let k : q < length T = omega arith in
          elim (cases_eq q p) [
            | inl same ↦ (let at : row_at (fill_row T f) p ≡ new = get_or-set_same T p new no_row o.within in
                subst (λ (x : ℕ). RowSuits P v ns x (row_at (fill_row T f) x)) (sym same)
                (subst (λ (r : Row). RowSuits P v ns p r) (sym at) (filled-suits P v ns f old o.is (s.rows p o.within) s.each_fill.0)))
            | inr other ↦ (let at : row_at (fill_row T f) q ≡ row_at T q = get_or-set_other T p q new no_row other in
                subst (λ (r : Row). RowSuits P v ns q r) (sym at) (s.rows q k))
          ];
      each_fill = s.each_fill.1;
      each_waiting = s.each_waiting;
    }

pub fills_law : FillsLaw
fills_law P v T ns [] ws s = s
fills_law P v T ns (f ∷ fs) ws s = fills_law P v (fill_row T f) ns fs ws (filled-one P v T ns f fs ws s)

-- where nothing waits, no row is open
pub none-open : (P : Project) (v : Verdict) (T : List Row) (ns : List TreeNode) → Stands P v T ns [] [] → (p : ℕ) → p < length T → IsClosed (says_at T p)
none-open P v T ns s p l =
    let a = open-at T p l in
    let b = s.waits (only_at p) in
    closed-from_none (says_at T p) (omega arith)
