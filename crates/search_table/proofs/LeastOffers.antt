-- The least of the start value and of all offers, where one view changes or comes.
use Rattle.std.proofs.Common.{◌≡◌, ℕ, zero, suc, ◌≤◌, List, [], ◌∷◌, ◌++◌, set, min, sym, refl, ap, arith}
use mathlib.Core.Option.{some-injective, some-ne-none}
use Rattle.search_table.specs.declared.view.PassView.{PassView}
use Rattle.search_table.specs.Lists.{least}
use Rattle.search_table.specs.Passes.{At, EachView, total}
use Rattle.search_table.specs.Rule.{least_offer, passes_of}
use Rattle.search_table.proofs.Totals.{le-total}

pub least-le : (start : ℕ) (ends : List ℕ) → least start ends ≤ start
least-le start [] = omega arith
least-le start (x ∷ xs) = let r = least-le start xs in omega arith

pub least-append : (start : ℕ) (xs ys : List ℕ) → least start (xs ++ ys) ≡ min (least start xs) (least start ys)
least-append start [] ys = let r = least-le start ys in omega arith
least-append start (x ∷ xs) ys = let r = least-append start xs ys in omega arith

pub least_offer-le : (start : ℕ) (vs : List PassView) → least_offer start vs ≤ start
least_offer-le start [] = omega arith
least_offer-le start (v ∷ vs) = let r = least_offer-le start vs in omega arith

pub least_offer-at : (start : ℕ) (vs : List PassView) (i : ℕ) (v : PassView) → At vs i v → least_offer start vs ≤ least start v.offers
least_offer-at start [] i v e = absurd (some-ne-none v (sym e))
least_offer-at start (x ∷ xs) zero v e = let is : least start x.offers ≡ least start v.offers = ap (λ (u : PassView). least start u.offers) (some-injective x v e) in omega arith
least_offer-at start (x ∷ xs) (suc i) v e = let r = least_offer-at start xs i v e in omega arith

pub least_offer-set : (start : ℕ) (vs : List PassView) (i : ℕ) (v w : PassView) → At vs i v
    → (min (least_offer start (set vs i w)) (least start v.offers) ≡ min (least_offer start vs) (least start w.offers)) × (least_offer start (set vs i w) ≤ least start w.offers)
least_offer-set start [] i v w e = absurd (some-ne-none v (sym e))
least_offer-set start (x ∷ xs) zero v w e =
    let is : least start x.offers ≡ least start v.offers = ap (λ (u : PassView). least start u.offers) (some-injective x v e) in (omega arith, omega arith)
least_offer-set start (x ∷ xs) (suc i) v w e = let r = least_offer-set start xs i v w e in let p = r.0 in let q = r.1 in (omega arith, omega arith)

pub least_offer-snoc : (start : ℕ) (vs : List PassView) (w : PassView) → w.offers ≡ [] → least_offer start (vs ++ w ∷ []) ≡ least_offer start vs
least_offer-snoc start [] w none = let is : least start w.offers ≡ start = ap (least start) none in omega arith
least_offer-snoc start (x ∷ xs) w none = let r = least_offer-snoc start xs w none in omega arith

-- where no pass is there, nothing was offered
least_offer-none : (start : ℕ) (vs : List PassView) → total passes_of vs ≡ 0 → EachView (λ v. v.passes ≡ 0 → v.offers ≡ []) vs → least_offer start vs ≡ start
least_offer-none start [] none h = refl
least_offer-none start (x ∷ xs) none h =
    let is : least start x.offers ≡ start = ap (least start) (h zero x refl (omega arith)) in
    let r = least_offer-none start xs (omega arith) (λ j u e. h (suc j) u e) in omega arith

-- where one view stands for all passes, it has all offers
pub least_offer-one : (start : ℕ) (vs : List PassView) (i : ℕ) (v : PassView) → At vs i v → total passes_of vs ≡ v.passes → EachView (λ u. u.passes ≡ 0 → u.offers ≡ []) vs
    → least_offer start vs ≡ least start v.offers
least_offer-one start [] i v e all h = absurd (some-ne-none v (sym e))
least_offer-one start (x ∷ xs) zero v e all h =
    let is : x ≡ v = some-injective x v e in let p : x.passes ≡ v.passes = ap passes_of is in let q : least start x.offers ≡ least start v.offers = ap (λ (u : PassView). least start u.offers) is in
    let r = least_offer-none start xs (omega arith) (λ j u e. h (suc j) u e) in let s = least-le start v.offers in omega arith
least_offer-one start (x ∷ xs) (suc i) v e all h =
    let a = le-total passes_of xs i v e in let n : least start x.offers ≡ start = ap (least start) (h zero x refl (omega arith)) in
    let r = least_offer-one start xs i v e (omega arith) (λ j u e. h (suc j) u e) in let s = least-le start v.offers in omega arith
