-- Which passes there are on each deque, where a right comes or goes.
use Rattle.std.proofs.Common.{◌≡◌, ◌≢◌, ℕ, zero, suc, ◌+◌, ◌<◌, List, [], ◌∷◌, ◌++◌, length, refl, ap, subst, arith}
use Rattle.std.specs.Prelude.{◌==◌, true, false, slice_index_or, slice_set}
use Rattle.std.proofs.lemmas.Bool.Decides.{nat_tests}
use Rattle.search_log.specs.Weights.{Each}
use Rattle.node_sources.specs.Seats.{Handle, Right, passes_on, IsReached, AreReached}

-- one right on a deque, and on another
pub passes-own : (worker : ℕ) (r : Right) (rs : List Right) → r.owner ≡ worker → passes_on worker (r ∷ rs) ≡ r.handle.passes + passes_on worker rs
passes-own worker r rs e = let same : r.owner == worker ≡ true = grind (arith, nat_tests) in rw same refl

pub passes-beside : (worker : ℕ) (r : Right) (rs : List Right) → r.owner ≢ worker → passes_on worker (r ∷ rs) ≡ passes_on worker rs
passes-beside worker r rs ne = let other : r.owner == worker ≡ false = grind (arith, nat_tests) in rw other (omega arith)

pub passes-append : (worker : ℕ) (rs ss : List Right) → passes_on worker (rs ++ ss) ≡ passes_on worker rs + passes_on worker ss
passes-append worker [] ss = omega arith
passes-append worker (r ∷ rs) ss = let ih = passes-append worker rs ss in omega arith

more-beside : (r : Right) (rs : List Right) (worker : ℕ) (own : Handle) → r.owner ≢ worker → IsReached rs worker own → IsReached (r ∷ rs) worker own
more-beside r rs worker own ne k = record { deque = (λ e. absurd (ne e), k.deque); passes = let a = passes-beside worker r rs ne in let p = k.passes in omega arith }

less-beside : (r : Right) (rs : List Right) (worker : ℕ) (own : Handle) → r.owner ≢ worker → IsReached (r ∷ rs) worker own → IsReached rs worker own
less-beside r rs worker own ne k = record { deque = k.deque.1; passes = let a = passes-beside worker r rs ne in let p = k.passes in omega arith }

-- a right on the deque of an earlier worker
pub more-before : (r : Right) (rs : List Right) (worker : ℕ) (owns : List Handle) → r.owner < worker → AreReached rs worker owns → AreReached (r ∷ rs) worker owns
more-before r rs worker [] l k = tt
more-before r rs worker (own ∷ owns) l k = (more-beside r rs worker own (omega arith) k.0, more-before r rs (worker + 1) owns (omega arith) k.1)

pub less-before : (r : Right) (rs : List Right) (worker : ℕ) (owns : List Handle) → r.owner < worker → AreReached (r ∷ rs) worker owns → AreReached rs worker owns
less-before r rs worker [] l k = tt
less-before r rs worker (own ∷ owns) l k = (less-beside r rs worker own (omega arith) k.0, less-before r rs (worker + 1) owns (omega arith) k.1)

-- a pass is split off a handle
abbrev pub split_handle : Handle → Handle
split_handle own = record { deque = own.deque; passes = own.passes; split_off = own.split_off + 1 }

abbrev pub new_right : ℕ → Handle → Right
new_right worker own = record { owner = worker; handle = record { deque = own.deque; passes = 1; split_off = 0 } }

pub splits : (rs : List Right) (worker : ℕ) (owns : List Handle) (i : ℕ) (d : Handle) → i < length owns → AreReached rs worker owns →
    AreReached (new_right (worker + i) (slice_index_or owns i d) ∷ rs) worker (slice_set owns i (split_handle (slice_index_or owns i d)))
splits rs worker [] i d l k = absurd (omega arith)
splits rs worker (own ∷ owns) zero d l k =
    let r : Right = new_right (worker + 0) own in
    let here : IsReached (r ∷ rs) worker (split_handle own) = record {
      deque = (λ _. refl, k.0.deque);
      passes = let a = passes-own worker r rs (omega arith) in let p = k.0.passes in omega arith;
    } in
    (here, more-before r rs (worker + 1) owns (omega arith) k.1)
splits rs worker (own ∷ owns) (suc i) d l k =
    let r : Right = new_right (worker + suc i) (slice_index_or owns i d) in
    let moved : new_right (worker + 1 + i) (slice_index_or owns i d) ≡ r = ap (λ (n : ℕ). new_right n (slice_index_or owns i d)) (omega arith) in (
      more-beside r rs worker own (omega arith) k.0,
      subst (λ (q : Right). AreReached (q ∷ rs) (worker + 1) (slice_set owns i (split_handle (slice_index_or owns i d)))) moved (splits rs (worker + 1) owns i d (omega arith) k.1),
    )

-- the same rights in another order
pub reordered : (rs ss : List Right) → ((worker : ℕ) → passes_on worker ss ≡ passes_on worker rs) → ((Q : Right → Type 0) → Each Q rs → Each Q ss) → (worker : ℕ) (owns : List Handle) → AreReached rs worker owns → AreReached ss worker owns
reordered rs ss same each worker [] k = tt
reordered rs ss same each worker (own ∷ owns) k = (
  record { deque = each (λ r. r.owner ≡ worker → r.handle.deque ≡ own.deque) k.0.deque; passes = let a = same worker in let p = k.0.passes in omega arith },
  reordered rs ss same each (worker + 1) owns k.1,
)

-- a right's passes are joined into a handle
abbrev pub joint_handle : Handle → Handle → Handle
joint_handle own h = record { deque = own.deque; passes = own.passes + h.passes; split_off = own.split_off }

pub joins : (r : Right) (rs : List Right) (worker : ℕ) (owns : List Handle) (i : ℕ) (d : Handle) → r.owner ≡ worker + i → i < length owns → AreReached (r ∷ rs) worker owns →
    AreReached rs worker (slice_set owns i (joint_handle (slice_index_or owns i d) r.handle))
joins r rs worker [] i d e l k = absurd (omega arith)
joins r rs worker (own ∷ owns) zero d e l k =
    let is : r.owner ≡ worker = omega arith in
    let here : IsReached rs worker (joint_handle own r.handle) = record { deque = k.0.deque.1; passes = let a = passes-own worker r rs is in let p = k.0.passes in omega arith } in
    (here, less-before r rs (worker + 1) owns (omega arith) k.1)
joins r rs worker (own ∷ owns) (suc i) d e l k = (less-beside r rs worker own (omega arith) k.0, joins r rs (worker + 1) owns i d (omega arith) (omega arith) k.1)

-- a right is on the deque of its owner
pub leads-into : (r : Right) (rs : List Right) (worker : ℕ) (owns : List Handle) (i : ℕ) (d : Handle) → r.owner ≡ worker + i → i < length owns → AreReached (r ∷ rs) worker owns → r.handle.deque ≡ (slice_index_or owns i d).deque
leads-into r rs worker [] i d e l k = absurd (omega arith)
leads-into r rs worker (own ∷ owns) zero d e l k = k.0.deque.0 (omega arith)
leads-into r rs worker (own ∷ owns) (suc i) d e l k = leads-into r rs (worker + 1) owns i d (omega arith) (omega arith) k.1
