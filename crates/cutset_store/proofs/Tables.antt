-- The lines of an index, by the sets that find them.
use Rattle.std.proofs.Common.{◌≡◌, ℕ, ◌+◌, ◌<◌, ◌≤◌, ◌≢◌, inl, inr, arith, refl, sym, ap, subst, ◌∙◌, List, [], ◌∷◌, ◌++◌, length, get_or, set, length-append, length-set, get_or-set_other, get_or-set_same}
use Rattle.std.specs.Prelude.{nat_eq, unwrap_or, Option, Some, None}
use Rattle.std.specs.HashMap.{HashMap, get}
use Rattle.std.proofs.lemmas.Bool.{cases_lt, cases_eq}
use Rattle.std.proofs.lemmas.List.{get_or_append_left, get_or_push, get_or_default, set-get_or}
use Rattle.sched_base.specs.declared.job_set.JobSet.{JobSet}
use Rattle.precedence_tree.specs.declared.active.Active.{Active}
use Rattle.cutset_store.specs.declared.row.Row.{Row}
use Rattle.cutset_store.specs.declared.table.Table.{Table}
use Rattle.cutset_store.specs.Line.{LineState, empty_line, Appends}
use Rattle.cutset_store.specs.Table.{HasLineAt, AreFound, IsTable, line_in, line_at, Enters}

-- the line in a place, whatever stands past the end
pub at-default : (lines : List LineState) (bits i : ℕ) (d e : LineState) → HasLineAt lines bits i → get_or lines i d ≡ get_or lines i e
at-default lines bits i d e has = get_or_default lines i d e has.within

some-same : (m n : ℕ) → Some m ≡ Some n → m ≡ n
some-same m n q = ap (λ (o : Option ℕ). unwrap_or o m) q

abbrev kind : Option ℕ → ℕ
kind None = 0
kind (Some m) = 1

none-some : (n : ℕ) → None ≡ Some n → ⊥
none-some n q = let z : kind None ≡ kind (Some n) = ap kind q in omega arith

-- A map that gives what it gave.

pub line-same : (ls ms : List LineState) (p q : Option ℕ) (s : JobSet) → ls ≡ ms → p ≡ q → line_in ls p s ≡ line_in ms q s
line-same ls ms p q s e f = ap (λ (zs : List LineState). line_in zs p s) e ∙ ap (λ (o : Option ℕ). line_in ms o s) f

pub found-same : {S T : Type 0} (old : HashMap ℕ ℕ S) (new : HashMap ℕ ℕ T) (lines : List LineState) → ((bits : ℕ) → get nat_eq new bits ≡ get nat_eq old bits) → AreFound old lines → AreFound new lines
found-same old new lines same found = record {
  own = λ bits i e. found.own bits i (sym (same bits) ∙ e);
  all = λ bits i has. same bits ∙ found.all bits i has;
}

pub gives-same : {S T : Type 0} (old : HashMap ℕ ℕ S) (new : HashMap ℕ ℕ T) (key : ℕ) → get nat_eq new key ≡ get nat_eq old key → ((bits : ℕ) → bits ≢ key → get nat_eq new bits ≡ get nat_eq old bits) → (bits : ℕ) → get nat_eq new bits ≡ get nat_eq old bits
gives-same old new key here others bits = elim (cases_eq bits key) [
  | inl e ↦ ap (get nat_eq new) e ∙ here ∙ sym (ap (get nat_eq old) e)
  | inr ne ↦ others bits ne
]

-- what stood there before, where a set has a place below the next one
pub was-there : (o : Option ℕ) (next place : ℕ) → place ≡ unwrap_or o next → place < next → Some place ≡ o
was-there None next place e low = absurd (omega arith)
was-there (Some i) next place e low = ap Some e

-- One line more, of a set that had none.

length-push : (lines : List LineState) (l : LineState) → length (lines ++ l ∷ []) ≡ length lines + 1
length-push lines l = length-append lines (l ∷ [])

longer : (lines : List LineState) (l : LineState) (bits i : ℕ) → HasLineAt lines bits i → HasLineAt (lines ++ l ∷ []) bits i
longer lines l bits i has = record {
  within = let size = length-push lines l in let low = has.within in omega arith;
  jobs = λ d. ap (λ (x : LineState). x.jobs.0) (get_or_append_left lines (l ∷ []) d i has.within) ∙ has.jobs d;
}

shorter : (lines : List LineState) (l : LineState) (bits i : ℕ) → i < length lines → HasLineAt (lines ++ l ∷ []) bits i → HasLineAt lines bits i
shorter lines l bits i low has = record {
  within = low;
  jobs = λ d. sym (ap (λ (x : LineState). x.jobs.0) (get_or_append_left lines (l ∷ []) d i low)) ∙ has.jobs d;
}

last-line : (lines : List LineState) (l : LineState) (i : ℕ) (d : LineState) → i ≡ length lines → get_or (lines ++ l ∷ []) i d ≡ l
last-line lines l i d e = get_or_push lines l d i (sym e)

-- the set has no place, and gets the next one
pub absent : {S : Type 0} (places : HashMap ℕ ℕ S) (lines : List LineState) (bits place : ℕ) (o : Option ℕ) → AreFound places lines → o ≡ get nat_eq places bits → place ≡ unwrap_or o (length lines) → length lines ≤ place → (None ≡ o) × (place ≡ length lines)
absent places lines bits place None found is e high = (refl, e)
absent places lines bits place (Some i) found is e high = let low = (found.own bits i (sym is)).within in absurd (omega arith)

module _ {S T : Type 0} (old : HashMap ℕ ℕ S) (new : HashMap ℕ ℕ T) (lines : List LineState) (set_ : JobSet) (found : AreFound old lines) (none : None ≡ get nat_eq old set_.0) (here : get nat_eq new set_.0 ≡ Some (length lines)) (others : (bits : ℕ) → bits ≢ set_.0 → get nat_eq new bits ≡ get nat_eq old bits) where
  pub found-push : AreFound new (lines ++ empty_line set_ ∷ [])
  found-push = record {
    own = λ bits i e. elim (cases_eq bits set_.0) [
      | inl q ↦
          let is = some-same i (length lines) (sym e ∙ ap (get nat_eq new) q ∙ here) in
          record {
            within = let size = length-push lines (empty_line set_) in omega arith;
            jobs = λ d. ap (λ (x : LineState). x.jobs.0) (last-line lines (empty_line set_) i d is) ∙ sym q;
          }
      | inr ne ↦ longer lines (empty_line set_) bits i (found.own bits i (sym (others bits ne) ∙ e))
    ];
    all = λ bits i has. elim (cases_lt i (length lines)) [
      | inl low ↦
          let was = found.all bits i (shorter lines (empty_line set_) bits i low has) in
          elim (cases_eq bits set_.0) [
            | inl q ↦ absurd (none-some i (none ∙ sym (ap (get nat_eq old) q) ∙ was))
            | inr ne ↦ others bits ne ∙ was
          ]
      | inr high ↦
          let is : i ≡ length lines = let size = length-push lines (empty_line set_) in let low = has.within in omega arith in
          let q : bits ≡ set_.0 = sym (has.jobs (empty_line set_)) ∙ ap (λ (x : LineState). x.jobs.0) (last-line lines (empty_line set_) i (empty_line set_) is) in
          ap (get nat_eq new) q ∙ here ∙ ap Some (sym is)
    ];
  }

  pub lines-push : (s : JobSet) → line_in (lines ++ empty_line set_ ∷ []) (get nat_eq new s.0) s ≡ line_in lines (get nat_eq old s.0) s
  lines-push s = elim (cases_eq s.0 set_.0) [
    | inl q ↦
        let same : s ≡ set_ = ap (λ n. (let r : JobSet = record { 0 = n } in r)) q in
        ap (λ (o : Option ℕ). line_in (lines ++ empty_line set_ ∷ []) o s) (ap (get nat_eq new) q ∙ here)
        ∙ last-line lines (empty_line set_) (length lines) (empty_line s) refl
        ∙ ap empty_line (sym same)
        ∙ ap (λ (o : Option ℕ). line_in lines o s) (none ∙ sym (ap (get nat_eq old) q))
    | inr ne ↦ ap (λ (o : Option ℕ). line_in (lines ++ empty_line set_ ∷ []) o s) (others s.0 ne) ∙ before (get nat_eq old s.0) refl
  ]
    where
      before : (o : Option ℕ) → get nat_eq old s.0 ≡ o → line_in (lines ++ empty_line set_ ∷ []) o s ≡ line_in lines o s
      before None e = refl
      before (Some i) e = get_or_append_left lines (empty_line set_ ∷ []) (empty_line s) i (found.own s.0 i e).within

-- One line changed, with the same jobs.

set-line : (lines : List LineState) (l : LineState) (place bits i : ℕ) → ((d : LineState) → (get_or lines place d).jobs.0 ≡ l.jobs.0) → place < length lines → HasLineAt lines bits i → HasLineAt (set lines place l) bits i
set-line lines l place bits i same low has = record {
  within = let size = length-set lines place l in let within = has.within in omega arith;
  jobs = λ d. elim (cases_eq i place) [
    | inl e ↦ ap (λ k. (get_or (set lines place l) k d).jobs.0) e ∙ ap (λ (x : LineState). x.jobs.0) (get_or-set_same lines place l d low) ∙ sym (same d) ∙ sym (ap (λ k. (get_or lines k d).jobs.0) e) ∙ has.jobs d
    | inr ne ↦ ap (λ (x : LineState). x.jobs.0) (get_or-set_other lines place i l d ne) ∙ has.jobs d
  ];
}

unset-line : (lines : List LineState) (l : LineState) (place bits i : ℕ) → ((d : LineState) → (get_or lines place d).jobs.0 ≡ l.jobs.0) → place < length lines → HasLineAt (set lines place l) bits i → HasLineAt lines bits i
unset-line lines l place bits i same low has = record {
  within = let size = length-set lines place l in let within = has.within in omega arith;
  jobs = λ d. elim (cases_eq i place) [
    | inl e ↦ ap (λ k. (get_or lines k d).jobs.0) e ∙ same d ∙ sym (ap (λ (x : LineState). x.jobs.0) (get_or-set_same lines place l d low)) ∙ sym (ap (λ k. (get_or (set lines place l) k d).jobs.0) e) ∙ has.jobs d
    | inr ne ↦ sym (ap (λ (x : LineState). x.jobs.0) (get_or-set_other lines place i l d ne)) ∙ has.jobs d
  ];
}

pub found-set : {S : Type 0} (places : HashMap ℕ ℕ S) (lines : List LineState) (l : LineState) (place : ℕ) → ((d : LineState) → (get_or lines place d).jobs.0 ≡ l.jobs.0) → place < length lines → AreFound places lines → AreFound places (set lines place l)
found-set places lines l place same low found = record {
  own = λ bits i e. set-line lines l place bits i same low (found.own bits i e);
  all = λ bits i has. found.all bits i (unset-line lines l place bits i same low has);
}

pub line-changed : (lines : List LineState) (l : LineState) (o : Option ℕ) (place : ℕ) (s : JobSet) → o ≡ Some place → place < length lines → line_in (set lines place l) o s ≡ l
line-changed lines l o place s e low = ap (λ (p : Option ℕ). line_in (set lines place l) p s) e ∙ get_or-set_same lines place l (empty_line s) low

pub line-stays : {S : Type 0} (places : HashMap ℕ ℕ S) (lines : List LineState) (l : LineState) (place bits : ℕ) (s : JobSet) (o : Option ℕ) → AreFound places lines → HasLineAt lines bits place → (s.0 ≡ bits → ⊥) → o ≡ get nat_eq places s.0 →
    line_in (set lines place l) o s ≡ line_in lines o s
line-stays places lines l place bits s None found has apart e = refl
line-stays places lines l place bits s (Some i) found has apart e =
    get_or-set_other lines place i l (empty_line s) (λ q. apart (sym ((found.own s.0 i (sym e)).jobs (empty_line s)) ∙ ap (λ k. (get_or lines k (empty_line s)).jobs.0) q ∙ has.jobs (empty_line s)))

-- a line in its place, after a change that keeps its jobs
pub same-jobs : (lines : List LineState) (old new : LineState) (place : ℕ) → place < length lines → old ≡ get_or lines place old → new.jobs ≡ old.jobs → (d : LineState) → (get_or lines place d).jobs.0 ≡ new.jobs.0
same-jobs lines old new place low at same d = ap (λ (x : LineState). x.jobs.0) (get_or_default lines place d old low ∙ sym at) ∙ sym (ap (λ (s : JobSet). s.0) same)

-- a row that was appended to the line of a set was entered
pub enters : (old mid new : Table) (set_ : JobSet) (place : ℕ) (was is : LineState) (row : Row) (used : List ℕ) (xs : List Active) → IsTable mid → ((s : JobSet) → line_at mid s ≡ line_at old s) → get nat_eq mid.places set_.0 ≡ Some place →
    new.places ≡ mid.places → new.lines.items ≡ set mid.lines.items place is → was ≡ get_or mid.lines.items place was → Appends was is row used xs → Enters old new set_ row used xs
enters old mid new set_ place was is row used xs table same found places lines at more = record {
  here = subst (λ (l : LineState). Appends l (line_at new set_) row used xs) (was-there ∙ same set_) (subst (λ (l : LineState). Appends was l row used xs) (sym (changed set_ ∙ line-changed mid.lines.items is (get nat_eq mid.places set_.0) place set_ found low)) more);
  others = λ s apart. changed s ∙ line-stays mid.places mid.lines.items is place set_.0 s (get nat_eq mid.places s.0) table has (λ e. apart (ap (λ n. (let r : JobSet = record { 0 = n } in r)) e)) refl ∙ same s;
}
  where
    has : HasLineAt mid.lines.items set_.0 place
    has = table.own set_.0 place found

    low : place < length mid.lines.items
    low = has.within

    was-there : was ≡ line_at mid set_
    was-there = at ∙ get_or_default mid.lines.items place was (empty_line set_) low ∙ sym (ap (λ (o : Option ℕ). line_in mid.lines.items o set_) found)

    changed : (s : JobSet) → line_at new s ≡ line_in (set mid.lines.items place is) (get nat_eq mid.places s.0) s
    changed s = ap (λ (ls : List LineState). line_in ls (get nat_eq new.places s.0) s) lines ∙ ap (λ m. line_in (set mid.lines.items place is) (get nat_eq m s.0) s) places

-- a line that is put back as it was changes nothing
pub put-back : (lines : List LineState) (place : ℕ) (was is : LineState) → was ≡ get_or lines place was → is ≡ was → set lines place is ≡ lines
put-back lines place was is at stays = ap (set lines place) (stays ∙ at) ∙ set-get_or lines place was
