-- Rows of a calendar, one after the other.
use Rattle.std.proofs.Common.{◌≡◌, ℕ, zero, suc, ◌<◌, ◌≤◌, inl, inr, arith, subst, ◌∙◌, List, [], ◌∷◌, length, get_or}
use Rattle.std.specs.Prelude.{All}
use Rattle.std.proofs.lemmas.Bool.{cases_lt}
use Rattle.std.proofs.lemmas.List.Elements.{All-get_or}
use Rattle.rcpsp_model.specs.declared.parts.CalRow.{CalRow}
use Rattle.rcpsp_model.specs.Project.{MayPrecede, IsInOrder, IsRowWithinLimits}

abbrev pub no_row : CalRow
no_row = record { resource = 0; begin = 0; until = 0; capacity = 0 }

-- each row may stand before the next
precedes-next : (rows : List CalRow) (i : ℕ) → IsInOrder rows → suc i < length rows → MayPrecede (get_or rows i no_row) (get_or rows (suc i) no_row)
precedes-next [] i o h = absurd (let z : suc i < 0 = h in omega arith)
precedes-next (a ∷ []) i o h = absurd (let z : suc i < 1 = h in omega arith)
precedes-next (a ∷ b ∷ rows) zero o h = o.0
precedes-next (a ∷ b ∷ rows) (suc i) o h = precedes-next (b ∷ rows) i o.1 (let z : suc (suc i) < suc (length (b ∷ rows)) = h in omega arith)

pub in-order-at : (rows : List CalRow) (i j : ℕ) → IsInOrder rows → suc i ≡ j → j < length rows → MayPrecede (get_or rows i no_row) (get_or rows j no_row)
in-order-at rows i j o e h = subst (λ (k : ℕ). MayPrecede (get_or rows i no_row) (get_or rows k no_row)) e (precedes-next rows i o (omega arith))

pub in-order-from : (rows : List CalRow) → ((i : ℕ) → suc i < length rows → MayPrecede (get_or rows i no_row) (get_or rows (suc i) no_row)) → IsInOrder rows
in-order-from [] each = tt
in-order-from (a ∷ []) each = tt
in-order-from (a ∷ b ∷ rows) each = (
  each 0 (let z : 1 < suc (suc (length rows)) = omega arith in z),
  in-order-from (b ∷ rows) (λ i h. each (suc i) (let z : suc (suc i) < suc (length (b ∷ rows)) = omega arith in z)),
)

-- each row may stand before all later ones
between : (a b c : CalRow) → b.begin < b.until → MayPrecede a b → MayPrecede b c → MayPrecede a c
between a b c some (inl x) (inl y) = inl (omega arith)
between a b c some (inl x) (inr y) = let same = y.0 in inl (omega arith)
between a b c some (inr x) (inl y) = let same = x.0 in inl (omega arith)
between a b c some (inr x) (inr y) = let over = x.1 in let next = y.1 in inr (x.0 ∙ y.0, omega arith)

precedes-later : (capacities : List ℕ) (rows : List CalRow) → All (IsRowWithinLimits capacities) rows → IsInOrder rows → (i j : ℕ) → i < j → j < length rows → MayPrecede (get_or rows i no_row) (get_or rows j no_row)
precedes-later capacities rows within o i zero lt h = absurd (omega arith)
precedes-later capacities rows within o i (suc j) lt h = elim (cases_lt i j) [
  | inl below ↦
      between (get_or rows i no_row) (get_or rows j no_row) (get_or rows (suc j) no_row) (All-get_or (IsRowWithinLimits capacities) rows j no_row (omega arith) within).some_period
      (precedes-later capacities rows within o i j below (omega arith)) (precedes-next rows j o h)
  | inr above ↦ subst (λ (k : ℕ). MayPrecede (get_or rows k no_row) (get_or rows (suc j) no_row)) (let z : j ≡ i = omega arith in z) (precedes-next rows j o h)
]

-- of two rows of one resource the later begins when the other is over
pub over-before : (capacities : List ℕ) (rows : List CalRow) → All (IsRowWithinLimits capacities) rows → IsInOrder rows → (i j : ℕ) → i < j → j < length rows →
    (get_or rows i no_row).resource ≡ (get_or rows j no_row).resource → (get_or rows i no_row).until ≤ (get_or rows j no_row).begin
over-before capacities rows within o i j lt h same = elim (precedes-later capacities rows within o i j lt h) [
  | inl lower ↦ absurd (omega arith)
  | inr over ↦ over.1
]
