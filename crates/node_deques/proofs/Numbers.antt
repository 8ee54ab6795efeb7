-- Numbers of nodes in order.
use Rattle.std.proofs.Common.{◌≡◌, ℕ, suc, ◌+◌, ◌<◌, ◌≤◌, List, [], ◌∷◌, ◌++◌, length, arith, sym, ap, subst}
use Rattle.std.specs.Prelude.{All}
use Rattle.std.proofs.lemmas.List.Elements.{All-nil, All-cons, All-head, All-tail, All-weaker}
use Rattle.node_deques.specs.declared.node.DequeNode.{DequeNode}
use Rattle.node_deques.specs.Nodes.{AreNumberedFrom, RiseFrom}

pub AreNumberedFrom-snoc : (n : ℕ) (xs : List DequeNode) (x : DequeNode) → AreNumberedFrom n xs → x.number ≡ n + length xs → AreNumberedFrom n (xs ++ x ∷ [])
AreNumberedFrom-snoc n [] x are is = (omega arith, tt)
AreNumberedFrom-snoc n (y ∷ ys) x are is = (are.0, AreNumberedFrom-snoc (n + 1) ys x are.1 (omega arith))

numbers-below-from : (n : ℕ) (xs : List DequeNode) → AreNumberedFrom n xs → All (λ x. x.number < n + length xs) xs
numbers-below-from n [] are = All-nil (λ (x : DequeNode). x.number < n + 0)
numbers-below-from n (y ∷ ys) are =
    let is = are.0 in let r = numbers-below-from (n + 1) ys are.1 in
    All-cons (λ (x : DequeNode). x.number < n + suc (length ys)) y ys (omega arith) (All-weaker (λ (x : DequeNode). x.number < n + 1 + length ys) (λ (x : DequeNode). x.number < n + suc (length ys)) (λ x l. omega arith) ys r)

-- each number is less than that of one more
pub numbers-below : (xs : List DequeNode) → AreNumberedFrom 0 xs → All (λ x. x.number < length xs) xs
numbers-below xs are = All-weaker (λ (x : DequeNode). x.number < 0 + length xs) (λ (x : DequeNode). x.number < length xs) (λ x l. omega arith) xs (numbers-below-from 0 xs are)

pub RiseFrom-snoc : (n m : ℕ) (xs : List DequeNode) (x : DequeNode) → RiseFrom n xs → n ≤ m → x.number ≡ m → All (λ y. y.number < m) xs → RiseFrom n (xs ++ x ∷ [])
RiseFrom-snoc n m [] x up le is below = (omega arith, tt)
RiseFrom-snoc n m (y ∷ ys) x up le is below =
    let b : y.number < m = All-head (λ (z : DequeNode). z.number < m) y ys below in
    (up.0, RiseFrom-snoc (y.number + 1) m ys x up.1 (omega arith) is (All-tail (λ (z : DequeNode). z.number < m) y ys below))

pub RiseFrom-front : (n : ℕ) (xs ys : List DequeNode) → RiseFrom n (xs ++ ys) → RiseFrom n xs
RiseFrom-front n [] ys up = tt
RiseFrom-front n (x ∷ xs) ys up = (up.0, RiseFrom-front (x.number + 1) xs ys up.1)

from-less : (n m : ℕ) (xs : List DequeNode) → n ≤ m → RiseFrom m xs → RiseFrom n xs
from-less n m [] le up = tt
from-less n m (x ∷ xs) le up = let u = up.0 in (omega arith, up.1)

pub RiseFrom-rest : (n : ℕ) (xs ys : List DequeNode) → RiseFrom n (xs ++ ys) → RiseFrom n ys
RiseFrom-rest n [] ys up = up
RiseFrom-rest n (x ∷ xs) ys up = let u = up.0 in from-less n (x.number + 1) ys (omega arith) (RiseFrom-rest (x.number + 1) xs ys up.1)
