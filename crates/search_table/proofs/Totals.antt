-- The views of all passes, where one changes or comes: which stands where, and sums over them.
use Rattle.std.proofs.Common.{◌≡◌, ◌≢◌, ℕ, zero, suc, ◌+◌, ◌<◌, ◌≤◌, ◌⊎◌, List, [], ◌∷◌, ◌++◌, length, set, sym, refl, ap, subst, inl, inr, ⊎_elim, arith}
use mathlib.Core.Option.{some-injective, some-ne-none}
use Rattle.atomic_table.proofs.Lists.{at_set}
use Rattle.search_table.specs.declared.view.PassView.{PassView}
use Rattle.search_table.specs.Passes.{At, EachView, total}

pub At-below : (vs : List PassView) (j : ℕ) (u : PassView) → At vs j u → j < length vs
At-below [] j u e = absurd (some-ne-none u (sym e))
At-below (x ∷ xs) zero u e = omega arith
At-below (x ∷ xs) (suc j) u e = let r = At-below xs j u e in omega arith

-- what stands in a list that is longer by one stood there before, or is the last
pub At-snoc : (vs : List PassView) (x : PassView) (j : ℕ) (u : PassView) → At (vs ++ x ∷ []) j u → At vs j u ⊎ ((j ≡ length vs) × (x ≡ u))
At-snoc [] x zero u e = inr (refl, some-injective x u e)
At-snoc [] x (suc j) u e = absurd (some-ne-none u (sym e))
At-snoc (y ∷ ys) x zero u e = inl e
At-snoc (y ∷ ys) x (suc j) u e = ⊎_elim (λ a. inl a) (λ (t : (j ≡ length ys) × (x ≡ u)). inr (ap suc t.0, t.1)) (At-snoc ys x j u e)

pub EachView-set : (P : PassView → Type 0) (vs : List PassView) (i : ℕ) (w : PassView) → EachView P vs → P w → EachView P (set vs i w)
EachView-set P vs i w each mine j u at = ⊎_elim (λ (x : (j ≡ i) × (w ≡ u)). subst P x.1 mine) (λ (x : (j ≢ i) × At vs j u). each j u x.1) (at_set vs i j w u at)

pub EachView-snoc : (P : PassView → Type 0) (vs : List PassView) (w : PassView) → EachView P vs → P w → EachView P (vs ++ w ∷ [])
EachView-snoc P vs w each mine j u at = ⊎_elim (λ (x : At vs j u). each j u x) (λ (x : (j ≡ length vs) × (w ≡ u)). subst P x.1 mine) (At-snoc vs w j u at)

pub total-set : (f : PassView → ℕ) (vs : List PassView) (i : ℕ) (v w : PassView) → At vs i v → total f (set vs i w) + f v ≡ total f vs + f w
total-set f [] i v w e = absurd (some-ne-none v (sym e))
total-set f (x ∷ xs) zero v w e = let is : f x ≡ f v = ap f (some-injective x v e) in omega arith
total-set f (x ∷ xs) (suc i) v w e = let r = total-set f xs i v w e in omega arith

pub total-snoc : (f : PassView → ℕ) (vs : List PassView) (w : PassView) → total f (vs ++ w ∷ []) ≡ total f vs + f w
total-snoc f [] w = omega arith
total-snoc f (x ∷ xs) w = let r = total-snoc f xs w in omega arith

-- a property of each view of none
pub nobody : (P : PassView → Type 0) → EachView P []
nobody P i v e = absurd (some-ne-none v (sym e))

pub total-le : (f g : PassView → ℕ) (vs : List PassView) → EachView (λ v. f v ≤ g v) vs → total f vs ≤ total g vs
total-le f g [] h = omega arith
total-le f g (x ∷ xs) h = let a = h zero x refl in let r = total-le f g xs (λ i v e. h (suc i) v e) in omega arith

pub le-total : (f : PassView → ℕ) (vs : List PassView) (i : ℕ) (v : PassView) → At vs i v → f v ≤ total f vs
le-total f [] i v e = absurd (some-ne-none v (sym e))
le-total f (x ∷ xs) zero v e = let is : f x ≡ f v = ap f (some-injective x v e) in omega arith
le-total f (x ∷ xs) (suc i) v e = let r = le-total f xs i v e in omega arith

-- where no view has any of g, the views have nothing of what only those with some of g have
total-none : (g f : PassView → ℕ) (vs : List PassView) → total g vs ≡ 0 → EachView (λ v. g v ≡ 0 → f v ≡ 0) vs → total f vs ≡ 0
total-none g f [] none h = refl
total-none g f (x ∷ xs) none h = let a = h zero x refl (omega arith) in let r = total-none g f xs (omega arith) (λ j u e. h (suc j) u e) in omega arith

-- where one view has all of g, it has all of f
pub total-one : (g f : PassView → ℕ) (vs : List PassView) (i : ℕ) (v : PassView) → At vs i v → total g vs ≡ g v → EachView (λ u. g u ≡ 0 → f u ≡ 0) vs → total f vs ≡ f v
total-one g f [] i v e all h = absurd (some-ne-none v (sym e))
total-one g f (x ∷ xs) zero v e all h =
    let is : x ≡ v = some-injective x v e in let p : g x ≡ g v = ap g is in let q : f x ≡ f v = ap f is in
    let r = total-none g f xs (omega arith) (λ j u e. h (suc j) u e) in omega arith
total-one g f (x ∷ xs) (suc i) v e all h =
    let a = le-total g xs i v e in let n = h zero x refl (omega arith) in
    let r = total-one g f xs i v e (omega arith) (λ j u e. h (suc j) u e) in omega arith
