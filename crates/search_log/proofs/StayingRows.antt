-- What filling leaves and what it writes, row by row.
use Rattle.std.proofs.Common.{◌≡◌, ℕ, ◌<◌, ◌⊎◌, inl, inr, refl, sym, ap, subst, ◌∙◌, arith, List, [], ◌∷◌, length, length-set, get_or-set_same, get_or-set_other, suc}
use Rattle.std.specs.Prelude.{slice_set}
use Rattle.std.proofs.lemmas.Bool.{cases_eq}
use Rattle.rcpsp_model.specs.declared.parts.Verdict.{Verdict}
use Rattle.rcpsp_model.specs.Project.{Project}
use Rattle.rcpsp_model.proofs.Lists.{In, In-from_Contains, Contains-from_In}
use Rattle.search_log.specs.declared.row.Row.{Row}
use Rattle.search_log.specs.declared.row.Origin.{Origin}
use Rattle.search_log.specs.declared.row.Fill.{Fill}
use Rattle.search_log.specs.Fates.{RowSaying, row_open, row_expanded, row_cites, row_saying}
use Rattle.search_log.specs.Table.{no_row, row_at, says_row, says_at}
use Rattle.search_log.specs.Stands.{TreeNode, place_front, IsClosed, Waiting, Stands, filled, fill_row, fill_rows, IsExpandedAt}
use Rattle.search_log.specs.Told.{no_origin, origin_at}
use Rattle.search_log.specs.Laws.{PlaceRow, row_with, place_row, filled_row, written, StaysLaw, ComesLaw, FromLaw, FilledCitesLaw}
use Rattle.search_log.proofs.FilledRows.{fill-open, filled-one}

closed-not_open : (s : RowSaying) → IsClosed s → s ≡ row_open → ⊥
closed-not_open s c e = subst IsClosed e c

pair : (r x : Row) (o y : Origin) → r ≡ x → o ≡ y → row_with r o ≡ row_with x y
pair r x o y e f = ap (λ (z : Row). row_with z o) e ∙ ap (row_with x) f

-- the first fill leaves the other rows
kept-one : (T : List Row) (O : List Origin) (f : Fill) (p : ℕ) → (p ≡ f.place → ⊥) → place_row (fill_row T f) (slice_set O f.place f.origin) p ≡ place_row T O p
kept-one T O f p d =
    pair (row_at (fill_row T f) p) (row_at T p) (origin_at (slice_set O f.place f.origin) p) (origin_at O p)
    (get_or-set_other T f.place p (filled (row_at T f.place) f.fate) no_row d) (get_or-set_other O f.place p f.origin no_origin d)

written-one : (T : List Row) (O : List Origin) (f : Fill) → f.place < length T → length O ≡ length T → place_row (fill_row T f) (slice_set O f.place f.origin) f.place ≡ written T f
written-one T O f l e =
    pair (row_at (fill_row T f) f.place) (filled (row_at T f.place) f.fate) (origin_at (slice_set O f.place f.origin) f.place) f.origin
    (get_or-set_same T f.place (filled (row_at T f.place) f.fate) no_row l) (get_or-set_same O f.place f.origin no_origin (omega arith))

pub stays_law : StaysLaw
stays_law P v T O ns [] ws p s c = refl
stays_law P v T O ns (f ∷ fs) ws p s c =
    let o = fill-open P v T ns f fs ws s in
    let d : p ≡ f.place → ⊥ = λ e. closed-not_open (says_at T p) c (ap (says_at T) e ∙ o.is) in
    let same = kept-one T O f p d in
    let closed : IsClosed (says_at (fill_row T f) p) = subst (λ (x : PlaceRow). IsClosed (says_row x.row)) (sym same) c in
    stays_law P v (fill_row T f) (slice_set O f.place f.origin) ns fs ws p (filled-one P v T ns f fs ws s) closed ∙ same

-- a row that is written stays written, whatever comes later
written-same : (T : List Row) (f g : Fill) → (g.place ≡ f.place → ⊥) → written (fill_row T f) g ≡ written T g
written-same T f g d = ap (λ (r : Row). row_with (filled r g.fate) g.origin) (get_or-set_other T f.place g.place (filled (row_at T f.place) f.fate) no_row d)

-- two fills of one list aren't of one place
apart : (P : Project) (v : Verdict) (T : List Row) (ns : List TreeNode) (f : Fill) (fs : List Fill) (ws : List Waiting) → Stands P v T ns (f ∷ fs) ws → (g : Fill) → In fs g → g.place ≡ f.place → ⊥
apart P v T ns f fs ws s g i e =
    let o = fill-open P v T ns f fs ws s in
    let at : row_at (fill_row T f) f.place ≡ filled (row_at T f.place) f.fate = get_or-set_same T f.place (filled (row_at T f.place) f.fate) no_row o.within in
    let here : IsClosed (says_at (fill_row T f) f.place) = subst (λ (r : Row). IsClosed (says_row r)) (sym at) s.each_fill.0.closed in
    closed-not_open (says_at (fill_row T f) f.place) here (subst (λ (x : ℕ). says_at (fill_row T f) x ≡ row_open) e (later (fill_row T f) fs ws (filled-one P v T ns f fs ws s) i))
  where
    later : (T : List Row) (fs : List Fill) (ws : List Waiting) → Stands P v T ns fs ws → In fs g → says_at T g.place ≡ row_open
    later T [] ws s i = absurd i
    later T (h ∷ fs) ws s (inl same) = subst (λ (x : Fill). says_at T x.place ≡ row_open) same (fill-open P v T ns h fs ws s).is
    later T (h ∷ fs) ws s (inr i) =
        elim (cases_eq g.place h.place) [
          | inl e ↦ ap (says_at T) e ∙ (fill-open P v T ns h fs ws s).is
          | inr d ↦ sym (ap says_row (get_or-set_other T h.place g.place (filled (row_at T h.place) h.fate) no_row d)) ∙ later (fill_row T h) fs ws (filled-one P v T ns h fs ws s) i
        ]

comes : (P : Project) (v : Verdict) (T : List Row) (O : List Origin) (ns : List TreeNode) (fs : List Fill) (ws : List Waiting) (g : Fill) → Stands P v T ns fs ws → length O ≡ length T → In fs g → filled_row T O fs g.place ≡ written T g
comes P v T O ns [] ws g s e i = absurd i
comes P v T O ns (f ∷ fs) ws g s e (inl same) =
    let o = fill-open P v T ns f fs ws s in
    let now = written-one T O f o.within e in
    let closed : IsClosed (says_at (fill_row T f) f.place) = subst (λ (x : PlaceRow). IsClosed (says_row x.row)) (sym now) s.each_fill.0.closed in
    let stays = stays_law P v (fill_row T f) (slice_set O f.place f.origin) ns fs ws f.place (filled-one P v T ns f fs ws s) closed in
    subst (λ (x : Fill). filled_row T O (f ∷ fs) x.place ≡ written T x) same (stays ∙ now)
comes P v T O ns (f ∷ fs) ws g s e (inr i) =
    let d = apart P v T ns f fs ws s g i in
    let a = length-set T f.place (filled (row_at T f.place) f.fate) in
    let b = length-set O f.place f.origin in
    comes P v (fill_row T f) (slice_set O f.place f.origin) ns fs ws g (filled-one P v T ns f fs ws s) (omega arith) i ∙ written-same T f g d

pub comes_law : ComesLaw
comes_law P v T O ns fs ws g s e c = comes P v T O ns fs ws g s e (In-from_Contains fs g c)

-- where a row comes from, with a fill among those of the list
record CameBy (T : List Row) (fs : List Fill) (p : ℕ) (x : PlaceRow) : Type 0 where
  fill : Fill
  among : In fs fill
  place : fill.place ≡ p

from : (P : Project) (v : Verdict) (T : List Row) (O : List Origin) (ns : List TreeNode) (fs : List Fill) (ws : List Waiting) (p : ℕ) → Stands P v T ns fs ws → length O ≡ length T →
    (filled_row T O fs p ≡ place_row T O p) ⊎ CameBy T fs p (filled_row T O fs p)
from P v T O ns [] ws p s e = inl refl
from P v T O ns (f ∷ fs) ws p s e =
    elim (cases_eq f.place p) [
      | inl same ↦ inr (record { fill = f; among = inl refl; place = same })
      | inr other ↦ (
          let a = length-set T f.place (filled (row_at T f.place) f.fate) in
          let b = length-set O f.place f.origin in
          elim (from P v (fill_row T f) (slice_set O f.place f.origin) ns fs ws p (filled-one P v T ns f fs ws s) (omega arith)) [
            | inl kept ↦ inl (kept ∙ kept-one T O f p (λ x. other (sym x)))
            | inr by ↦ inr (record { fill = by.fill; among = inr by.among; place = by.place })
          ])
    ]

pub from_law : FromLaw
from_law P v T O ns fs ws p s e =
    elim (from P v T O ns fs ws p s e) [
      | inl kept ↦ inl kept
      | inr by ↦ inr (record {
        fill = by.fill;
        among = Contains-from_In fs by.fill by.among;
        place = by.place;
        row = subst (λ (x : ℕ). filled_row T O fs x ≡ written T by.fill) by.place (comes P v T O ns fs ws by.fill s e by.among);
      })
    ]

expanded-closed : (s : RowSaying) (first count : ℕ) → s ≡ row_expanded first count → IsClosed s
expanded-closed s first count e = subst IsClosed (sym e) tt

-- what was expanded stays so
pub expanded-stays : (P : Project) (v : Verdict) (T : List Row) (ns : List TreeNode) (fs : List Fill) (ws : List Waiting) (q : ℕ) → Stands P v T ns fs ws → IsExpandedAt T q → IsExpandedAt (fill_rows T fs) q
expanded-stays P v T ns fs ws q s e =
    let same = stays_law P v T [] ns fs ws q s (expanded-closed (says_at T q) e.first e.count e.is) in
    record { first = e.first; count = e.count; is = ap (λ (x : PlaceRow). says_row x.row) same ∙ e.is }

origins-of : (T : List Row) → (O : List Origin) × (length O ≡ length T)
origins-of [] = ([], refl)
origins-of (r ∷ T) = let o = origins-of T in (no_origin ∷ o.0, ap suc o.1)

pub filled_cites_law : FilledCitesLaw
filled_cites_law P v T ns fs ws s old new p q F says front =
    let o = origins-of T in
    elim (from_law P v T o.0 ns fs ws p s o.1) [
      | inl kept ↦ (
          let was : says_at T p ≡ row_cites q = sym (ap (λ (x : PlaceRow). says_row x.row) kept) ∙ says in
          let c = old p q F was front in
          record { expanded = expanded-stays P v T ns fs ws q s c.expanded; front = c.front; is_its = c.is_its; dominates = c.dominates })
      | inr by ↦ (
          let is : row_saying by.fill.fate ≡ row_cites q = sym (ap (λ (x : PlaceRow). says_row x.row) by.row) ∙ says in
          new by.fill q F by.among is (ap (place_front ns) by.place ∙ front))
    ]
