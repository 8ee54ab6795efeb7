-- Every whole table has a log.
use Rattle.std.proofs.Common.{◌≡◌, ℕ, zero, suc, ◌+◌, ◌<◌, ◌≤◌, refl, subst, ◌∙◌, arith, List, [], ◌∷◌, ◌++◌, length, map, length-set, All}
use Rattle.std.specs.Prelude.{slice_index, slice_set}
use Rattle.std.proofs.lemmas.List.{length-map}
use Rattle.std.proofs.lemmas.List.Elements.{All-get_or}
use Rattle.proof_log.specs.declared.report.LogLine.{LogLine}
use Rattle.search_log.specs.declared.row.Row.{Row}
use Rattle.search_log.specs.declared.row.Origin.{Origin}
use Rattle.search_log.specs.Weights.{Each}
use Rattle.search_log.specs.Table.{row_at, says_at, children_of, IsWhole, Walks, IsPreorder}
use Rattle.search_log.specs.Stands.{line_of}
use Rattle.search_log.specs.Told.{AreNumbered, TellsAll, origin_at, told_origin}
use Rattle.search_log.proofs.Sums.{total-append}
use Rattle.search_log.proofs.PassedPlaces.{IsPlace, Weighs, few-places, next-inside}
use Rattle.search_log.proofs.PlaceNumbers.{HasNumbers, numbers-more, all-numbered, order-inside}

-- Where these places were passed, in whatever order, and those wait, at most n places are left, and there is a walk through them
walk-on : (T : List Row) → IsWhole T → (n : ℕ) (passed waiting : List ℕ) → Weighs T passed waiting → Each (IsPlace T) passed → Each (IsPlace T) waiting → length T ≤ length passed + n →
    (rest : List ℕ) × Walks T waiting rest
walk-on T w n passed [] k a b l = ([], refl)
walk-on T w zero passed (p ∷ waiting) k a b l = absurd (let few = few-places T passed (p ∷ waiting) w k a b in omega arith)
walk-on T w (suc n) passed (p ∷ waiting) k a b l =
    let children : List ℕ = children_of (says_at T p) in
    let weighs : Weighs T (p ∷ passed) (children ++ waiting) = λ h. let before = k h in let both = total-append h children waiting in omega arith in
    let on = walk-on T w n (p ∷ passed) (children ++ waiting) weighs (b.0, a) (next-inside T w p waiting b.0 b.1) (omega arith) in
    (p ∷ on.0, (refl, on.1))

-- the places can be passed in preorder
pub preorder-of : (T : List Row) → IsWhole T → (order : List ℕ) × IsPreorder T order
preorder-of T w = walk-on T w (length T) [] (0 ∷ []) (λ h. omega arith) tt (w.root, tt) (omega arith)

-- numbers for so many places, of which the first i have theirs
record Numbers (size : ℕ) (order : List ℕ) (i : ℕ) : Type 0 where
  pub numbers : List ℕ
  pub size_is : length numbers ≡ size
  pub so_far : HasNumbers numbers order i

numbers-to : (T : List Row) (order : List ℕ) → All (λ p. p < length T) order → (i : ℕ) → i ≤ length order → Numbers (length T) order i
numbers-to T order inside zero l = record { numbers = map (λ (r : Row). 0) T; size_is = length-map T (λ (r : Row). 0); so_far = record { found = λ q none. absurd none } }
numbers-to T order inside (suc i) l =
    let before = numbers-to T order inside i (omega arith) in
    let p = slice_index order i in
    let within : p < length T = All-get_or (λ p. p < length T) order i 0 (omega arith) inside in
    let next : i + 1 ≡ suc i = omega arith in
    let size = before.size_is in
    record {
      numbers = slice_set before.numbers p (i + 1);
      size_is = length-set before.numbers p (i + 1) ∙ size;
      so_far = subst (HasNumbers (slice_set before.numbers p (i + 1)) order) next (numbers-more before.numbers order i p refl (omega arith) (omega arith) before.so_far);
    }

-- and they can be numbered so
pub numbers-for : (T : List Row) (order : List ℕ) → IsWhole T → IsPreorder T order → (numbers : List ℕ) × AreNumbered numbers order
numbers-for T order w k =
    let all = numbers-to T order (order-inside T order w k) (length order) (omega arith) in
    (all.numbers, all-numbered all.numbers order (length order) (omega arith) all.so_far)

-- so there are lines, and origins of them, that the table tells
pub told-log : (T : List Row) (O : List Origin) → IsWhole T → (lines : List LogLine) × (origins : List Origin) × TellsAll T O lines origins
told-log T O w =
    let order = preorder-of T w in
    let numbers = numbers-for T order.0 w order.1 in (
      map (λ p. line_of numbers.0 (row_at T p)) order.0,
      map (λ p. told_origin (slice_index numbers.0 p) (origin_at O p)) order.0,
      record { lines_of = record { numbers = numbers.0; order = order.0; walk = order.1; numbered = numbers.1; are = refl }; origins_of = refl },
    )
