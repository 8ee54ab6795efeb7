-- How far a walk has come.
use Rattle.std.proofs.Common.{◌≡◌, ℕ, ◌+◌, ◌-◌, ◌<◌, refl, sym, ap, subst, ◌∙◌, arith, List, [], ◌∷◌, ◌++◌, length, append_assoc, append-nil}
use Rattle.rcpsp_model.specs.Project.{numbers_from}
use Rattle.search_log.specs.declared.row.Row.{Row}
use Rattle.search_log.specs.declared.walk.Span.{Span}
use Rattle.search_log.specs.Weights.{total, Each}
use Rattle.search_log.specs.Table.{says_at, children_of, IsWhole, Walks, IsPreorder}
use Rattle.search_log.specs.Walk.{places_of, HasSome}
use Rattle.search_log.proofs.Sums.{total-append, Each-append, Each-left, Each-right, numbers-first}
use Rattle.search_log.proofs.PassedPlaces.{IsPlace, below, Weighs, few-places, next-inside}

-- Stacks.

pub places-last : (stack : List Span) (s : Span) → places_of (stack ++ s ∷ []) ≡ numbers_from s.next s.count ++ places_of stack
places-last [] s = sym (append-nil (numbers_from s.next s.count))
places-last (x ∷ stack) s =
    ap (λ (ys : List ℕ). ys ++ numbers_from x.next x.count) (places-last stack s) ∙ append_assoc (numbers_from s.next s.count) (places_of stack) (numbers_from x.next x.count)

pub some-last : (stack : List Span) (s : Span) → Each HasSome stack → 0 < s.count → Each HasSome (stack ++ s ∷ [])
some-last stack s e l = Each-append HasSome stack (s ∷ []) e (l, tt)

-- what waits after the next place of the last span
abbrev pub after_next : List Span → Span → List ℕ
after_next stack s = numbers_from (s.next + 1) (s.count - 1) ++ places_of stack

pub next-first : (stack : List Span) (s : Span) → 0 < s.count → places_of (stack ++ s ∷ []) ≡ s.next ∷ after_next stack s
next-first stack s l = places-last stack s ∙ ap (λ (ys : List ℕ). ys ++ places_of stack) (numbers-first s.next s.count l)

-- these places were passed, and those of the stack wait
pub record IsUnderway (T : List Row) (order : List ℕ) (stack : List Span) : Type 0 where
  pub some : Each HasSome stack
  pub steps : (rest : List ℕ) → Walks T (places_of stack) rest → IsPreorder T (order ++ rest)
  pub weighs : Weighs T order (places_of stack)
  pub order_inside : Each (IsPlace T) order
  pub stack_inside : Each (IsPlace T) (places_of stack)

pub underway-first : (T : List Row) → IsWhole T → IsUnderway T [] (record { next = 0; count = 1 } ∷ [])
underway-first T w = record { some = (omega arith, tt); steps = λ rest k. k; weighs = λ h. omega arith; order_inside = tt; stack_inside = (w.root, tt) }

-- the next place is passed
pub underway-next : (T : List Row) → IsWhole T → (order : List ℕ) (stack : List Span) (s : Span) (new : List Span) → IsUnderway T order (stack ++ s ∷ []) → places_of new ≡ children_of (says_at T s.next) ++ after_next stack s →
    Each HasSome new → 0 < s.count → IsUnderway T (order ++ s.next ∷ []) new
underway-next T w order stack s new k e some l =
    let p = s.next in
    let rest : List ℕ = after_next stack s in
    let children : List ℕ = children_of (says_at T p) in
    let first : places_of (stack ++ s ∷ []) ≡ p ∷ rest = next-first stack s l in
    let inside : Each (IsPlace T) (p ∷ rest) = subst (Each (IsPlace T)) first k.stack_inside in
    record {
      some = some;
      steps = λ more m.
          let go : Walks T (p ∷ rest) (p ∷ more) = (refl, subst (λ (x : List ℕ). Walks T x more) e m) in
          subst (IsPreorder T) (sym (append_assoc order (p ∷ []) more)) (k.steps (p ∷ more) (subst (λ (x : List ℕ). Walks T x (p ∷ more)) (sym first) go));
      weighs = λ h.
          let a = k.weighs h in
          let b : total h (places_of (stack ++ s ∷ [])) ≡ h p + total h rest = ap (total h) first in
          let c : total h (places_of new) ≡ total h (children ++ rest) = ap (total h) e in
          let d = total-append h children rest in
          let f = total-append h order (p ∷ []) in
          let g = total-append (below T h) order (p ∷ []) in
          omega arith;
      order_inside = Each-append (IsPlace T) order (p ∷ []) k.order_inside (inside.0, tt);
      stack_inside = subst (Each (IsPlace T)) (sym e) (next-inside T w p rest inside.0 inside.1);
    }

-- the next place lies in the table, and not all rows were passed before it
pub record IsNextPlace (T : List Row) (order : List ℕ) (s : Span) : Type 0 where
  pub some : 0 < s.count
  pub within : s.next < length T
  pub few : length order < length T

pub next-place : (T : List Row) → IsWhole T → (order : List ℕ) (stack : List Span) (s : Span) → IsUnderway T order (stack ++ s ∷ []) → IsNextPlace T order s
next-place T w order stack s k =
    let l : 0 < s.count = (Each-right HasSome stack (s ∷ []) k.some).0 in
    let first = next-first stack s l in
    let inside : Each (IsPlace T) (s.next ∷ after_next stack s) = subst (Each (IsPlace T)) first k.stack_inside in
    let f = few-places T order (places_of (stack ++ s ∷ [])) w k.weighs k.order_inside k.stack_inside in
    let n : length (places_of (stack ++ s ∷ [])) ≡ length (s.next ∷ after_next stack s) = ap length first in
    record { some = l; within = inside.0; few = omega arith }

pub some-left : (T : List Row) (order : List ℕ) (stack : List Span) (s : Span) → IsUnderway T order (stack ++ s ∷ []) → Each HasSome stack
some-left T order stack s k = Each-left HasSome stack (s ∷ []) k.some

pub underway-last : (T : List Row) (order : List ℕ) → IsUnderway T order [] → IsPreorder T order
underway-last T order k = subst (IsPreorder T) (append-nil order) (k.steps [] refl)
