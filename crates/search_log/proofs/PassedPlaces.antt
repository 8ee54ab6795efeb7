-- What a walk through a table passes: each place once.
use Rattle.std.proofs.Common.{◌≡◌, ℕ, zero, suc, ◌+◌, ◌<◌, ◌≤◌, sym, ap, subst, arith, List, [], ◌∷◌, ◌++◌, length}
use Rattle.search_log.specs.declared.row.Row.{Row}
use Rattle.search_log.specs.Weights.{total, over, places_weight, Each}
use Rattle.search_log.specs.Table.{no_row, says_row, says_at, children_of, children_weight, IsBelow, IsWhole, Walks, IsPreorder}
use Rattle.search_log.proofs.Sums.{total-append, total-zero, total-one, Each-append, Each-weaker, over-zero, over-one, over-items}

abbrev pub IsPlace : List Row → ℕ → Type 0
IsPlace T p = p < length T

-- what the children of a place weigh
abbrev pub below : List Row → (ℕ → ℕ) → ℕ → ℕ
below T h p = total h (children_of (says_at T p))

-- the places that were passed and those that wait weigh what the root and the children of those that were passed weigh
abbrev pub Weighs : List Row → List ℕ → List ℕ → Type 0
Weighs T order waiting = (h : ℕ → ℕ) → total h order + total h waiting ≡ h 0 + total (below T h) order

-- nothing that lies so deep weighs anything
abbrev IsFlat : (T : List Row) → IsWhole T → ℕ → (ℕ → ℕ) → Type 0
IsFlat T w n h = (p : ℕ) → n ≤ w.level p → p < length T → h p ≡ 0

children-deeper : (T : List Row) (n : ℕ) (h : ℕ → ℕ) (w : IsWhole T) → IsFlat T w (suc n) h → IsFlat T w n (below T h)
children-deeper T n h w z p l i = total-zero h (IsBelow T w.level p) (children_of (says_at T p)) (λ q b. z q (let c = b.deeper in omega arith) b.within) (w.inside p i)

pub below-rows : (T : List Row) (h : ℕ → ℕ) → places_weight (below T h) T ≡ children_weight h T
below-rows T h = over-items no_row (λ k r. total h (children_of (says_row r))) T

few-from : (T : List Row) (order waiting : List ℕ) (w : IsWhole T) → Weighs T order waiting → Each (IsPlace T) order → Each (IsPlace T) waiting →
    (n : ℕ) (h : ℕ → ℕ) → IsFlat T w n h → total h order + total h waiting ≤ places_weight h T
few-from T order waiting w e a b zero h z =
    let x = total-zero h (IsPlace T) order (λ p i. z p (omega arith) i) a in
    let y = total-zero h (IsPlace T) waiting (λ p i. z p (omega arith) i) b in
    omega arith
few-from T order waiting w e a b (suc n) h z =
    let ih = few-from T order waiting w e a b n (below T h) (children-deeper T n h w z) in
    let rows = below-rows T h in
    let all = w.account h in
    let own = e h in
    omega arith

place-weighs : {X : Type 0} (h : ℕ → ℕ) (k : ℕ) (xs : List X) (i : ℕ) → i < length xs → h (k + i) ≤ over (λ p x. h p) k xs
place-weighs h k [] i l = absurd (omega arith)
place-weighs h k (x ∷ xs) zero l = let same : h (k + 0) ≡ h k = ap h (omega arith) in omega arith
place-weighs h k (x ∷ xs) (suc i) l =
    let ih = place-weighs h (k + 1) xs i (omega arith) in
    let same : h (k + 1 + i) ≡ h (k + suc i) = ap h (omega arith) in
    omega arith

-- no place lies so deep
abbrev deepest : (T : List Row) → IsWhole T → ℕ
deepest T w = suc (places_weight w.level T)

nothing-deeper : (T : List Row) (w : IsWhole T) (h : ℕ → ℕ) → IsFlat T w (deepest T w) h
nothing-deeper T w h p l i = let one = place-weighs w.level 0 T p i in let same : w.level (0 + p) ≡ w.level p = ap w.level (omega arith) in absurd (omega arith)

-- no place is passed twice, or waits after it was passed
pub few : (T : List Row) (order waiting : List ℕ) → IsWhole T → Weighs T order waiting → Each (IsPlace T) order → Each (IsPlace T) waiting →
    (h : ℕ → ℕ) → total h order + total h waiting ≤ places_weight h T
few T order waiting w e a b h = few-from T order waiting w e a b (deepest T w) h (nothing-deeper T w h)

all-from : (T : List Row) (order : List ℕ) (w : IsWhole T) → Weighs T order [] → Each (IsPlace T) order → (n : ℕ) (h : ℕ → ℕ) → IsFlat T w n h → total h order ≡ places_weight h T
all-from T order w e a zero h z =
    let x = total-zero h (IsPlace T) order (λ p i. z p (omega arith) i) a in
    let y = over-zero (λ k r. h k) 0 T (λ p r l i. z p (omega arith) (omega arith)) in
    omega arith
all-from T order w e a (suc n) h z =
    let ih = all-from T order w e a n (below T h) (children-deeper T n h w z) in
    let rows = below-rows T h in
    let all = w.account h in
    let own = e h in
    omega arith

-- so the places are no more than the rows
pub few-places : (T : List Row) (order waiting : List ℕ) → IsWhole T → Weighs T order waiting → Each (IsPlace T) order → Each (IsPlace T) waiting → length order + length waiting ≤ length T
few-places T order waiting w e a b =
    let r = few T order waiting w e a b (λ p. 1) in
    let x = total-one order in
    let y = total-one waiting in
    let z = over-one 0 T in
    omega arith

-- Whole walks.

walk-weighs : (T : List Row) (waiting order : List ℕ) → Walks T waiting order → (h : ℕ → ℕ) → total h order ≡ total h waiting + total (below T h) order
walk-weighs T waiting [] w h = let e : total h waiting ≡ 0 = ap (total h) w in omega arith
walk-weighs T [] (p ∷ order) w h = absurd w
walk-weighs T (next ∷ waiting) (p ∷ order) w h =
    let ih = walk-weighs T (children_of (says_at T next) ++ waiting) order w.1 h in
    let both = total-append h (children_of (says_at T next)) waiting in
    let own : h p ≡ h next = ap h w.0 in
    let children : below T h p ≡ below T h next = ap (below T h) w.0 in
    omega arith

-- what waits after the next place
pub next-inside : (T : List Row) → IsWhole T → (next : ℕ) (waiting : List ℕ) → IsPlace T next → Each (IsPlace T) waiting → Each (IsPlace T) (children_of (says_at T next) ++ waiting)
next-inside T w next waiting l e =
    Each-append (IsPlace T) (children_of (says_at T next)) waiting (Each-weaker (IsBelow T w.level next) (IsPlace T) (children_of (says_at T next)) (λ q b. b.within) (w.inside next l)) e

walk-inside : (T : List Row) → IsWhole T → (waiting order : List ℕ) → Walks T waiting order → Each (IsPlace T) waiting → Each (IsPlace T) order
walk-inside T w waiting [] k e = tt
walk-inside T w [] (p ∷ order) k e = absurd k
walk-inside T w (next ∷ waiting) (p ∷ order) k e =
    (subst (IsPlace T) (sym k.0) e.0, walk-inside T w (children_of (says_at T next) ++ waiting) order k.1 (next-inside T w next waiting e.0 e.1))

-- a walk from the root passes each place once
pub record PassesAll (T : List Row) (order : List ℕ) : Type 0 where
  pub inside : Each (IsPlace T) order
  pub once : (h : ℕ → ℕ) → total h order ≡ places_weight h T

pub passes-all : (T : List Row) → IsWhole T → (order : List ℕ) → IsPreorder T order → PassesAll T order
passes-all T w order k =
    let i = walk-inside T w (0 ∷ []) order k (w.root, tt) in
    record { inside = i; once = λ h. all-from T order w (λ g. let r = walk-weighs T (0 ∷ []) order k g in omega arith) i (deepest T w) h (nothing-deeper T w h) }

pub order-length : (T : List Row) → IsWhole T → (order : List ℕ) → IsPreorder T order → length order ≡ length T
order-length T w order k =
    let a = (passes-all T w order k).once (λ p. 1) in
    let b = total-one order in
    let c = over-one 0 T in
    omega arith
