-- Rows that are put in, and requests that are added to them, number by number.
use Rattle.std.proofs.Common.{◌≡◌, ℕ, ◌+◌, ◌-◌, ◌%◌, ◌<◌, ◌≤◌, inl, inr, arith, refl, sym, ap, ◌∙◌, List, length, get_or, set, cond, ltb, length-set}
use Rattle.std.specs.List.{insert}
use Rattle.std.proofs.lemmas.Bool.{cases_lt, cases_eq}
use Rattle.std.proofs.lemmas.List.{get_or-set_same, get_or-set_other}
use Rattle.std.proofs.lemmas.List.Edits.{length-insert, get_or-insert_below, get_or-insert_at, get_or-insert_above}
use Rattle.profiles.specs.Adding.{AreShifted, AreRaised}

pub shifted-none : (xs : List ℕ) (first width : ℕ) → AreShifted xs xs first width first
shifted-none xs first width = record {
  size = omega arith;
  below = λ q h. refl;
  own = λ q low high. absurd (omega arith);
  above = λ q low. ap (λ (i : ℕ). get_or xs i 0) (let z : q + (first - first) ≡ q = omega arith in z);
}

pub shifted-more : (old new next : List ℕ) (first width at x : ℕ) → first ≤ length old → first ≤ at → at < first + width → AreShifted old new first width at →
    x ≡ cond (ltb first width) 0 (get_or old (at - width) 0) → next ≡ insert new at x → AreShifted old next first width (at + 1)
shifted-more old new next first width at x le low high h value put =
    let size = h.size in
    let within : at ≤ length new = omega arith in
    let is = ap (λ (xs : List ℕ). length xs) put in
    let longer = length-insert new at x within in
    record {
      size = omega arith;
      below = λ q lt. ap (λ (xs : List ℕ). get_or xs q 0) put ∙ get_or-insert_below new at x 0 q (omega arith) within ∙ h.below q lt;
      own = λ q from until. elim (cases_lt q at) [
        | inl before ↦ ap (λ (xs : List ℕ). get_or xs q 0) put ∙ get_or-insert_below new at x 0 q before within ∙ h.own q from before
        | inr here ↦
            let e : at ≡ q = omega arith in
            ap (λ (xs : List ℕ). get_or xs q 0) put ∙ sym (ap (λ (i : ℕ). get_or (insert new at x) i 0) e) ∙ get_or-insert_at new at x 0 within ∙ value
            ∙ ap (λ (i : ℕ). cond (ltb first width) 0 (get_or old (i - width) 0)) e
      ];
      above = λ q from.
          ap (λ (xs : List ℕ). get_or xs (q + (at + 1 - first)) 0) put
          ∙ ap (λ (i : ℕ). get_or (insert new at x) i 0) (let z : q + (at + 1 - first) ≡ q + (at - first) + 1 = omega arith in z)
          ∙ get_or-insert_above new at x 0 (q + (at - first)) (omega arith) within ∙ h.above q from;
    }

pub raised-none : (xs requests : List ℕ) (first : ℕ) → AreRaised xs xs first first requests
raised-none xs requests first = record { size = refl; inside = λ q low high. absurd (omega arith); outside = λ q h. refl }

pub raised-more : (old new next requests : List ℕ) (first at x : ℕ) → first ≤ at → at < length old → AreRaised old new first at requests →
    x ≡ get_or new at 0 + get_or requests (at % length requests) 0 → next ≡ set new at x → AreRaised old next first (at + 1) requests
raised-more old new next requests first at x low within h value put =
    let size = h.size in
    let apart : (q : ℕ) → (q ≡ at → ⊥) → get_or next q 0 ≡ get_or new q 0 = λ q ne. ap (λ (xs : List ℕ). get_or xs q 0) put ∙ get_or-set_other new at q x 0 ne in
    record {
      size = ap (λ (xs : List ℕ). length xs) put ∙ length-set new at x ∙ size;
      inside = λ q from until. elim (cases_eq q at) [
        | inl e ↦
            let here = ap (λ (xs : List ℕ). get_or xs q 0) put ∙ ap (λ (i : ℕ). get_or (set new at x) i 0) e ∙ get_or-set_same new at x 0 (omega arith) ∙ value in
            let old_here = h.outside at (inr (omega arith)) in
            let a = ap (λ (i : ℕ). get_or old i 0) e in
            let b = ap (λ (i : ℕ). get_or requests (i % length requests) 0) e in
            omega arith
        | inr ne ↦ apart q ne ∙ h.inside q from (omega arith)
      ];
      outside = λ q out. elim out [
        | inl before ↦ apart q (λ e. omega arith) ∙ h.outside q (inl before)
        | inr after ↦ apart q (λ e. omega arith) ∙ h.outside q (inr (omega arith))
      ];
    }
