-- The numbers of places.
use Rattle.std.proofs.Common.{◌≡◌, ℕ, ◌+◌, ◌<◌, ◌≤◌, ◌⊎◌, inl, inr, sym, ap, subst, ◌∙◌, List, [], ◌∷◌, length, take, Some, get_or-set_same, get_or-set_other, All}
use Rattle.std.specs.Prelude.{slice_index, slice_set}
use Rattle.std.proofs.lemmas.List.{take_more, take_all}
use Rattle.std.proofs.lemmas.Option.{slice_get-get_or}
use Rattle.std.proofs.lemmas.Bool.{cases_eq}
use Rattle.rcpsp_model.proofs.Lists.{In, In-append, In-from_Contains, All-from_In}
use Rattle.search_log.specs.declared.row.Row.{Row}
use Rattle.search_log.specs.Table.{IsWhole, IsPreorder}
use Rattle.search_log.specs.Told.{HasNumber, AreNumbered}
use Rattle.search_log.proofs.Sums.{Each-In}
use Rattle.search_log.proofs.PassedPlaces.{IsPlace, passes-all}

-- the first i places have their numbers
pub record HasNumbers (numbers order : List ℕ) (i : ℕ) : Type 0 where
  pub found : (q : ℕ) → In (take i order) q → HasNumber numbers order q

pub numbers-more : (numbers order : List ℕ) (i p : ℕ) → p ≡ slice_index order i → i < length order → p < length numbers → HasNumbers numbers order i → HasNumbers (slice_set numbers p (i + 1)) order (i + 1)
numbers-more numbers order i p e l w k = record { found = λ q m. at q (cases_eq q p) m }
  where
    at : (q : ℕ) → (q ≡ p) ⊎ (q ≡ p → ⊥) → In (take (i + 1) order) q → HasNumber (slice_set numbers p (i + 1)) order q
    at q (inl same) m = record {
      index = i;
      number = ap (λ (x : ℕ). slice_index (slice_set numbers p (i + 1)) x) same ∙ get_or-set_same numbers p (i + 1) 0 w;
      stands = slice_get-get_or order i 0 l ∙ ap (λ (x : ℕ). Some x) (sym e ∙ sym same);
    }
    at q (inr other) m =
        let h : HasNumber numbers order q = elim (In-append (take i order) (slice_index order i ∷ []) q (subst (λ (x : List ℕ). In x q) (take_more order i 0 l) m)) [
          | inl a ↦ k.found q a
          | inr b ↦ elim b [ inl c ↦ absurd (other (sym c ∙ sym e)) | inr f ↦ absurd f ]
        ] in
        record { index = h.index; number = get_or-set_other numbers p q (i + 1) 0 other ∙ h.number; stands = h.stands }

pub all-numbered : (numbers order : List ℕ) (i : ℕ) → length order ≤ i → HasNumbers numbers order i → AreNumbered numbers order
all-numbered numbers order i l k = λ q c. k.found q (subst (λ (x : List ℕ). In x q) (sym (take_all i order l)) (In-from_Contains order q c))

pub order-inside : (T : List Row) (order : List ℕ) → IsWhole T → IsPreorder T order → All (λ p. p < length T) order
order-inside T order w k = All-from_In (IsPlace T) order (λ q i. Each-In (IsPlace T) order q (passes-all T w order k).inside i)
