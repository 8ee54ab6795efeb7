-- The place of the row of a live record.
use Rattle.std.proofs.Common.{◌≡◌, ℕ, zero, suc, ◌+◌, ◌-◌, ◌<◌, refl, sym, ap, subst, ◌∙◌, arith, List, [], ◌∷◌, ◌++◌, length, Some}
use Rattle.std.specs.Prelude.{slice_get, slice_set, slice_index_or}
use Rattle.std.specs.List.{AllZip}
use Rattle.std.proofs.Common.{take, length-take}
use Rattle.std.proofs.lemmas.List.{take_more}
use Rattle.std.proofs.lemmas.Option.{get_or_from_slice_get, slice_get_within}
use Rattle.rcpsp_model.proofs.Lists.{Contains-from_In}
use Rattle.rcpsp_model.proofs.Choices.{zip-append}
use Rattle.log_truth.proofs.OneLine.{get-In}
use Rattle.precedence_tree.specs.declared.base.Base.{Base}
use Rattle.search_log.specs.declared.row.Fill.{Fill}
use Rattle.search_rounds.specs.declared.round.PlacedRecord.{PlacedRecord}
use Rattle.search_rounds.proofs.FilledSums.{zip-length}
use Rattle.shared_rows.specs.Rows.{RowsState}
use Rattle.tree_worker.specs.declared.live.LiveNote.{LiveNote}
use Rattle.steal_rounds.specs.declared.gathering.Shown.{Shown}
use Rattle.steal_rounds.specs.declared.gathering.Published.{Published}
use Rattle.steal_rounds.specs.Cited.{IsShown, ArePublished, IsSamePublished, AreSamePublished, IsToBeCited, IsRowOf, with_cited, cited_rows}

-- the record that another worker published
pub record Found (rows : RowsState) (made : List PlacedRecord) (published : List Published) (live : LiveNote) : Type 0 where
  pub by : Published
  pub is_by : slice_get published (live.worker - 1) ≡ Some by
  pub shown : Shown
  pub is_shown : slice_get by.shown.items live.place ≡ Some shown
  pub is : IsShown rows made live.worker live.place (by.first + live.place) shown.note

item-at : {X : Type 0} (xs : List X) (i : ℕ) → i < length xs → (x : X) × (slice_get xs i ≡ Some x)
item-at [] i l = absurd (omega arith)
item-at (x ∷ xs) zero l = (x, refl)
item-at (x ∷ xs) (suc i) l = item-at xs i (omega arith)

pub found : (rows : RowsState) (made : List PlacedRecord) (published : List Published) (live : LiveNote) → ArePublished rows made published → IsToBeCited rows published live → Found rows made published live
found rows made published live all c =
    let s = item-at c.by.shown.items live.place c.within in
    let some = c.some in
    let same : live.worker - 1 + 1 ≡ live.worker = omega arith in
    record {
      by = c.by;
      is_by = c.worker;
      shown = s.0;
      is_shown = s.1;
      is = subst (λ (w : ℕ). IsShown rows made w live.place (c.by.first + live.place) s.0.note) same ((all (live.worker - 1) c.by c.worker).each live.place s.0 s.1);
    }

-- as the code finds it
pub found-by : (rows : RowsState) (made : List PlacedRecord) (published : List Published) (live : LiveNote) (d : Published) → (f : Found rows made published live) → slice_index_or published (live.worker - 1) d ≡ f.by
found-by rows made published live d f = get_or_from_slice_get published (live.worker - 1) f.by d f.is_by

pub found-shown : (rows : RowsState) (made : List PlacedRecord) (published : List Published) (live : LiveNote) (d : Published) (e : Shown) → (f : Found rows made published live) →
    slice_index_or (slice_index_or published (live.worker - 1) d).shown.items live.place e ≡ f.shown
found-shown rows made published live d e f = ap (λ (p : Published). slice_index_or p.shown.items live.place e) (found-by rows made published live d f) ∙ get_or_from_slice_get f.by.shown.items live.place f.shown e f.is_shown

-- the number of the record is one of those that were made
pub made-within : (rows : RowsState) (made : List PlacedRecord) (published : List Published) (live : LiveNote) (d : Published) → (f : Found rows made published live) →
    (slice_index_or published (live.worker - 1) d).first + live.place < length made
made-within rows made published live d f =
    let first = ap (λ (p : Published). p.first) (found-by rows made published live d f) in
    let l = slice_get_within made (f.by.first + live.place) f.is.made_record f.is.is_at in
    omega arith

pub shown-within : (rows : RowsState) (made : List PlacedRecord) (published : List Published) (live : LiveNote) (d : Published) → (f : Found rows made published live) →
    live.place < length (slice_index_or published (live.worker - 1) d).shown.items
shown-within rows made published live d f =
    let many = ap (λ (p : Published). length p.shown.items) (found-by rows made published live d f) in
    let l = slice_get_within f.by.shown.items live.place f.shown f.is_shown in
    omega arith

pub made-row : (rows : RowsState) (made : List PlacedRecord) (published : List Published) (live : LiveNote) (d : Published) (e : PlacedRecord) → (f : Found rows made published live) → live.note.known ≡ f.shown.note.known →
    IsRowOf made (slice_index_or made ((slice_index_or published (live.worker - 1) d).first + live.place) e).place live
made-row rows made published live d e f same =
    let first = ap (λ (p : Published). p.first) (found-by rows made published live d f) in
    let at = ap (λ (n : ℕ). (slice_index_or made (n + live.place) e).place) first in
    let is = ap (λ (m : PlacedRecord). m.place) (get_or_from_slice_get made (f.by.first + live.place) f.is.made_record e f.is.is_at) in
    record {
      made_record = f.is.made_record;
      among = Contains-from_In made f.is.made_record (get-In made (f.by.first + live.place) f.is.made_record f.is.is_at);
      is_at = sym (at ∙ is);
      front = λ base k. let equal : f.is.base ≡ base = some-same f.is.base base (sym f.is.known ∙ (sym same ∙ k)) in f.is.front ∙ ap (λ (b : Base). b.front) equal;
    }
  where
    some-same : (x y : Base) → Some x ≡ Some y → x ≡ y
    some-same x y e = cc

-- setting an item to what it is changes nothing
pub set-same : {X : Type 0} (xs : List X) (i : ℕ) (d x : X) → slice_index_or xs i d ≡ x → i < length xs → slice_set xs i x ≡ xs
set-same [] i d x e l = absurd (omega arith)
set-same {X = X} (y ∷ xs) zero d x e l = ap (λ (z : X). z ∷ xs) (sym e)
set-same {X = X} (y ∷ xs) (suc i) d x e l = ap (λ (zs : List X). y ∷ zs) (set-same xs i d x e (omega arith))

-- What is published stays.

pub same-all : (ps : List Published) → AreSamePublished ps ps
same-all [] = tt
same-all (p ∷ ps) = (record { first = refl; shown = refl }, same-all ps)

pub same-set : (ps : List Published) (i : ℕ) (d q : Published) → IsSamePublished (slice_index_or ps i d) q → AreSamePublished ps (slice_set ps i q)
same-set [] i d q e = tt
same-set (p ∷ ps) zero d q e = (e, same-all ps)
same-set (p ∷ ps) (suc i) d q e = (record { first = refl; shown = refl }, same-set ps i d q e)

pub same-then : (ps qs rs : List Published) → AreSamePublished ps qs → AreSamePublished qs rs → AreSamePublished ps rs
same-then [] [] [] a b = tt
same-then [] [] (r ∷ rs) a b = b
same-then [] (q ∷ qs) rs a b = absurd a
same-then (p ∷ ps) [] rs a b = absurd a
same-then (p ∷ ps) (q ∷ qs) [] a b = absurd b
same-then (p ∷ ps) (q ∷ qs) (r ∷ rs) a b = (record { first = b.0.first ∙ a.0.first; shown = b.0.shown ∙ a.0.shown }, same-then ps qs rs a.1 b.1)

same-back : (ps qs : List Published) (i : ℕ) (q : Published) → AreSamePublished ps qs → slice_get qs i ≡ Some q → (p : Published) × (slice_get ps i ≡ Some p) × IsSamePublished p q
same-back [] [] i q a g = absurd cc
same-back [] (y ∷ qs) i q a g = absurd a
same-back (p ∷ ps) [] i q a g = absurd a
same-back (p ∷ ps) (y ∷ qs) zero q a g = (p, refl, subst (IsSamePublished p) (same y q g) a.0)
  where
    same : (x y : Published) → Some x ≡ Some y → x ≡ y
    same x y e = cc
same-back (p ∷ ps) (y ∷ qs) (suc i) q a g = same-back ps qs i q a.1 g

same-on : (ps qs : List Published) (i : ℕ) (p : Published) → AreSamePublished ps qs → slice_get ps i ≡ Some p → (q : Published) × (slice_get qs i ≡ Some q) × IsSamePublished p q
same-on [] qs i p a g = absurd cc
same-on (x ∷ ps) [] i p a g = absurd a
same-on (x ∷ ps) (q ∷ qs) zero p a g = (q, refl, subst (λ (y : Published). IsSamePublished y q) (same x p g) a.0)
  where
    same : (x y : Published) → Some x ≡ Some y → x ≡ y
    same x y e = cc
same-on (x ∷ ps) (q ∷ qs) (suc i) p a g = same-on ps qs i p a.1 g

pub still-published : (rows : RowsState) (made : List PlacedRecord) (ps qs : List Published) → AreSamePublished ps qs → ArePublished rows made ps → ArePublished rows made qs
still-published rows made ps qs a all worker q g =
    let b = same-back ps qs worker q a g in
    let e = b.2 in
    record {
      each = λ place s h.
          subst (λ (n : ℕ). IsShown rows made (worker + 1) place (n + place) s.note) (sym e.first)
          ((all worker b.0 b.1).each place s (subst (λ (xs : List Shown). slice_get xs place ≡ Some s) e.shown h));
    }

pub still-to_cite : (rows : RowsState) (ps qs : List Published) (live : LiveNote) → AreSamePublished ps qs → IsToBeCited rows ps live → IsToBeCited rows qs live
still-to_cite rows ps qs live a c =
    let b = same-on ps qs (live.worker - 1) c.by a c.worker in
    let n = ap length b.2.shown in
    let l = c.within in
    record { some = c.some; by = b.0; worker = b.1; within = omega arith; cell = c.cell; base = c.base; known = c.known }

-- One more.

cited-push : (fills : List Fill) (numbers places : List ℕ) (i q : ℕ) → length numbers ≡ length places → cited_rows fills (numbers ++ i ∷ []) (places ++ q ∷ []) ≡ with_cited (cited_rows fills numbers places) i q
cited-push fills [] [] i q e = refl
cited-push fills [] (p ∷ places) i q e = absurd (omega arith)
cited-push fills (n ∷ numbers) [] i q e = absurd (omega arith)
cited-push fills (n ∷ numbers) (p ∷ places) i q e = cited-push (with_cited fills n p) numbers places i q (omega arith)

-- one live record more is cited
pub one-more : (made : List PlacedRecord) (cited : List LiveNote) (live : List ℕ) (before : List Fill) (done : ℕ) (fills : List Fill) (places : List ℕ) (note : LiveNote) (place : ℕ) → done < length live → length live ≡ length cited →
    IsRowOf made place (slice_index_or cited done note) → AllZip (IsRowOf made) places (take done cited) → fills ≡ cited_rows before (take done live) places →
    AllZip (IsRowOf made) (places ++ place ∷ []) (take (done + 1) cited) × (with_cited fills (slice_index_or live done 0) place ≡ cited_rows before (take (done + 1) live) (places ++ place ∷ []))
one-more made cited live before done fills places note place l many row rows is = (
  subst (AllZip (IsRowOf made) (places ++ place ∷ [])) (sym (take_more cited done note (omega arith)))
      (zip-append (IsRowOf made) places (place ∷ []) (take done cited) (slice_index_or cited done note ∷ []) rows (row, tt)),
  (ap (λ (fs : List Fill). with_cited fs (slice_index_or live done 0) place) is
      ∙ (sym (cited-push before (take done live) places (slice_index_or live done 0) place
      (let a = zip-length (IsRowOf made) places (take done cited) rows in let b = length-take done cited in let d = length-take done live in omega arith))
      ∙ ap (λ (ns : List ℕ). cited_rows before ns (places ++ place ∷ [])) (sym (take_more live done 0 l)))),
)
