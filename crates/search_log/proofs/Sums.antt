-- Sums over lists and tables.
use Rattle.std.proofs.Common.{◌≡◌, ℕ, zero, suc, ◌+◌, ◌-◌, ◌<◌, ◌≤◌, inl, inr, refl, sym, ap, subst, ◌∙◌, arith, List, [], ◌∷◌, ◌++◌, length, length-append, map, get_or, append_assoc}
use Rattle.std.specs.Prelude.{◌==◌, if◌then◌else◌, slice_index_or, slice_set}
use Rattle.std.proofs.lemmas.Bool.{cases_eq}
use Rattle.std.proofs.lemmas.Bool.Decides.{nat_tests}
use Rattle.std.proofs.lemmas.List.{get_or_at}
use Rattle.rcpsp_model.specs.Project.{numbers_from}
use Rattle.rcpsp_model.proofs.Lists.{In}
use Rattle.search_log.specs.Weights.{total, over, places_weight, Each}

-- Lists.

pub total-append : {X : Type 0} (f : X → ℕ) (xs ys : List X) → total f (xs ++ ys) ≡ total f xs + total f ys
total-append f [] ys = omega arith
total-append f (x ∷ xs) ys = let ih = total-append f xs ys in omega arith

pub total-same : {X : Type 0} (f g : X → ℕ) (xs : List X) → ((x : X) → f x ≡ g x) → total f xs ≡ total g xs
total-same f g [] e = refl
total-same f g (x ∷ xs) e = let ih = total-same f g xs e in let own = e x in omega arith

pub total-zero : {X : Type 0} (f : X → ℕ) (Q : X → Type 0) (xs : List X) → ((x : X) → Q x → f x ≡ 0) → Each Q xs → total f xs ≡ 0
total-zero f Q [] z e = refl
total-zero f Q (x ∷ xs) z e = let ih = total-zero f Q xs z e.1 in let own = z x e.0 in omega arith

pub total-map : {X Y : Type 0} (f : Y → ℕ) (g : X → Y) (xs : List X) → total f (map g xs) ≡ total (λ x. f (g x)) xs
total-map f g [] = refl
total-map f g (x ∷ xs) = let ih = total-map f g xs in omega arith

pub total-one : {X : Type 0} (xs : List X) → total (λ x. 1) xs ≡ length xs
total-one [] = refl
total-one (x ∷ xs) = let ih = total-one xs in omega arith

pub Each-append : {X : Type 0} (Q : X → Type 0) (xs ys : List X) → Each Q xs → Each Q ys → Each Q (xs ++ ys)
Each-append Q [] ys a b = b
Each-append Q (x ∷ xs) ys a b = (a.0, Each-append Q xs ys a.1 b)

pub Each-left : {X : Type 0} (Q : X → Type 0) (xs ys : List X) → Each Q (xs ++ ys) → Each Q xs
Each-left Q [] ys a = tt
Each-left Q (x ∷ xs) ys a = (a.0, Each-left Q xs ys a.1)

pub Each-right : {X : Type 0} (Q : X → Type 0) (xs ys : List X) → Each Q (xs ++ ys) → Each Q ys
Each-right Q [] ys a = a
Each-right Q (x ∷ xs) ys a = Each-right Q xs ys a.1

pub Each-weaker : {X : Type 0} (Q R : X → Type 0) (xs : List X) → ((x : X) → Q x → R x) → Each Q xs → Each R xs
Each-weaker Q R [] f a = tt
Each-weaker Q R (x ∷ xs) f a = (f x a.0, Each-weaker Q R xs f a.1)

pub Each-In : {X : Type 0} (Q : X → Type 0) (xs : List X) (x : X) → Each Q xs → In xs x → Q x
Each-In Q [] x e i = absurd i
Each-In Q (y ∷ ys) x e (inl s) = subst Q s e.0
Each-In Q (y ∷ ys) x e (inr i) = Each-In Q ys x e.1 i

pub Each-from_In : {X : Type 0} (Q : X → Type 0) (xs : List X) → ((x : X) → In xs x → Q x) → Each Q xs
Each-from_In Q [] f = tt
Each-from_In Q (x ∷ xs) f = (f x (inl refl), Each-from_In Q xs (λ y i. f y (inr i)))

pub length-numbers : (i n : ℕ) → length (numbers_from i n) ≡ n
length-numbers i zero = refl
length-numbers i (suc n) = ap suc (length-numbers (i + 1) n)

pub numbers-first : (i n : ℕ) → 0 < n → numbers_from i n ≡ i ∷ numbers_from (i + 1) (n - 1)
numbers-first i zero l = absurd (omega arith)
numbers-first i (suc n) l = let e : n ≡ suc n - 1 = omega arith in ap (λ (x : ℕ). i ∷ numbers_from (i + 1) x) e

-- the numbers that are one in a list at its place
pub numbers-total : {X : Type 0} (h : ℕ → ℕ) (k : ℕ) (xs : List X) → over (λ p x. h p) k xs ≡ total h (numbers_from k (length xs))
numbers-total h k [] = refl
numbers-total h k (x ∷ xs) = let ih = numbers-total h (k + 1) xs in omega arith

-- Lists whose items weigh by their places.

pub over-append : {X : Type 0} (g : ℕ → X → ℕ) (k : ℕ) (xs ys : List X) → over g k (xs ++ ys) ≡ over g k xs + over g (k + length xs) ys
over-append g k [] ys = let e : k + 0 ≡ k = omega arith in let own = ap (λ (n : ℕ). over g n ys) e in omega arith
over-append g k (x ∷ xs) ys =
    let ih = over-append g (k + 1) xs ys in
    let e : k + 1 + length xs ≡ k + suc (length xs) = omega arith in
    let own = ap (λ (n : ℕ). over g n ys) e in
    omega arith

pub over-zero : {X : Type 0} (g : ℕ → X → ℕ) (k : ℕ) (xs : List X) → ((p : ℕ) (x : X) → k ≤ p → p < k + length xs → g p x ≡ 0) → over g k xs ≡ 0
over-zero g k [] z = refl
over-zero g k (x ∷ xs) z = let own = z k x (omega arith) (omega arith) in let ih = over-zero g (k + 1) xs (λ p y l m. z p y (omega arith) (omega arith)) in omega arith

pub over-one : {X : Type 0} (k : ℕ) (xs : List X) → over (λ p x. 1) k xs ≡ length xs
over-one k [] = refl
over-one k (x ∷ xs) = let ih = over-one (k + 1) xs in omega arith

over-items_from : {X : Type 0} (d : X) (g : ℕ → X → ℕ) (all pre xs : List X) (k : ℕ) → all ≡ pre ++ xs → k ≡ length pre → over (λ p x. g p (slice_index_or all p d)) k xs ≡ over g k xs
over-items_from d g all pre [] k e l = refl
over-items_from d g all pre (x ∷ xs) k e l =
    let here : slice_index_or all k d ≡ x = ap (λ (t : List _). get_or t k d) e ∙ get_or_at pre x xs d k (sym l) in
    let same : g k (slice_index_or all k d) ≡ g k x = ap (g k) here in
    let n = length-append pre (x ∷ []) in
    let ih = over-items_from d g all (pre ++ x ∷ []) xs (k + 1) (e ∙ sym (append_assoc pre (x ∷ []) xs)) (omega arith) in
    omega arith

-- each item is the one at its place
pub over-items : {X : Type 0} (d : X) (g : ℕ → X → ℕ) (xs : List X) → over (λ p x. g p (slice_index_or xs p d)) 0 xs ≡ over g 0 xs
over-items d g xs = over-items_from d g xs [] xs 0 refl refl

-- an item is changed
pub over-set : {X : Type 0} (d : X) (g : ℕ → X → ℕ) (k : ℕ) (xs : List X) (i : ℕ) (y : X) → i < length xs →
    over g k (slice_set xs i y) + g (k + i) (slice_index_or xs i d) ≡ over g k xs + g (k + i) y
over-set d g k [] i y l = absurd (omega arith)
over-set d g k (x ∷ xs) zero y l =
    let e : k + 0 ≡ k = omega arith in
    let old = ap (λ (n : ℕ). g n x) e in
    let new = ap (λ (n : ℕ). g n y) e in
    omega arith
over-set d g k (x ∷ xs) (suc i) y l =
    let ih = over-set d g (k + 1) xs i y (omega arith) in
    let e : k + 1 + i ≡ k + suc i = omega arith in
    let old = ap (λ (n : ℕ). g n (slice_index_or xs i d)) e in
    let new = ap (λ (n : ℕ). g n y) e in
    omega arith

-- Weights that are nothing but at one place.

abbrev pub only_at : ℕ → ℕ → ℕ
only_at q k = if k == q then 1 else 0

pub only_at-same : (q : ℕ) → only_at q q ≡ 1
only_at-same q = grind (arith, nat_tests)

pub only_at-other : (q k : ℕ) → (k ≡ q → ⊥) → only_at q k ≡ 0
only_at-other q k n = grind (arith, nat_tests)

over-at_from : {X : Type 0} (d : X) (g : ℕ → X → ℕ) (k : ℕ) (xs : List X) (i : ℕ) → i < length xs → ((p : ℕ) (x : X) → (p ≡ k + i → ⊥) → g p x ≡ 0) →
    over g k xs ≡ g (k + i) (slice_index_or xs i d)
over-at_from d g k [] i l z = absurd (omega arith)
over-at_from d g k (x ∷ xs) zero l z =
    let e : k + 0 ≡ k = omega arith in
    let own = ap (λ (n : ℕ). g n x) e in
    let rest = over-zero g (k + 1) xs (λ p y m n. z p y (λ s. omega arith)) in
    omega arith
over-at_from d g k (x ∷ xs) (suc i) l z =
    let ih = over-at_from d g (k + 1) xs i (omega arith) (λ p y n. z p y (λ s. n (omega arith))) in
    let e : k + 1 + i ≡ k + suc i = omega arith in
    let own = ap (λ (n : ℕ). g n (slice_index_or xs i d)) e in
    let first = z k x (λ s. omega arith) in
    omega arith

pub over-at : {X : Type 0} (d : X) (g : ℕ → X → ℕ) (xs : List X) (p : ℕ) → p < length xs → ((q : ℕ) (x : X) → (q ≡ p → ⊥) → g q x ≡ 0) → over g 0 xs ≡ g p (slice_index_or xs p d)
over-at d g xs p l z =
    let r = over-at_from d g 0 xs p l (λ q x n. z q x (λ e. n (omega arith))) in
    let e : 0 + p ≡ p = omega arith in
    let own = ap (λ (n : ℕ). g n (slice_index_or xs p d)) e in
    omega arith

pub place-once : {X : Type 0} (d : X) (xs : List X) (p : ℕ) → p < length xs → places_weight (only_at p) xs ≡ 1
place-once d xs p l = let a = over-at d (λ k x. only_at p k) xs p l (λ q x n. only_at-other p q n) in let b = only_at-same p in omega arith

-- what weighs something is among the numbers
pub In-from_weight : (q : ℕ) (xs : List ℕ) → 0 < total (only_at q) xs → In xs q
In-from_weight q [] l = absurd (omega arith)
In-from_weight q (x ∷ xs) l = elim (cases_eq x q) [ inl e ↦ inl e | inr n ↦ inr (In-from_weight q xs (let a = only_at-other q x n in omega arith)) ]

weighs-none : (q i n : ℕ) → q < i → total (only_at q) (numbers_from i n) ≡ 0
weighs-none q i zero l = refl
weighs-none q i (suc n) l = let own = only_at-other q i (λ e. omega arith) in let ih = weighs-none q (i + 1) n (omega arith) in omega arith

-- a number is once among numbers in a row
pub weighs-one : (q i n : ℕ) → total (only_at q) (numbers_from i n) ≤ 1
weighs-one q i zero = omega arith
weighs-one q i (suc n) = elim (cases_eq i q) [
  | inl e ↦ (let own : only_at q i ≡ only_at q q = ap (only_at q) e in let one = only_at-same q in let none = weighs-none q (i + 1) n (omega arith) in omega arith)
  | inr d ↦ (let own = only_at-other q i d in let ih = weighs-one q (i + 1) n in omega arith)
]
