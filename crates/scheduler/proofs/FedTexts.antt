-- What a judge stands for while a text is read: all of it in the end.
use Rattle.std.proofs.Common.{◌≡◌, ℕ, ◌+◌, ◌≤◌, arith, refl, sym, ap, ◌∙◌, Option, Some, None, IsSome, List, [], ◌++◌, length, take, length-append, length-take, append_assoc}
use Rattle.sched_base.specs.Outside.{Takes, Begins}
use Rattle.scheduler.specs.Feeding.{IsTextUnder, HasTaken, HasAll, HasText, IsTaken}

-- One read.

nothing : (n : ℕ) (piece : List ℕ) → n ≡ 0 → take n piece ≡ []
nothing n piece e = ap (λ (k : ℕ). take k piece) e

pub goes : (texts : Option (List (List ℕ × List ℕ))) (Stood Stands : List ℕ → Type 0) (before left piece : List ℕ) (n : ℕ) → n ≤ length piece → 1 ≤ length piece → (IsSome texts → Takes before left piece n) →
    ((bytes : List ℕ) → Stood bytes → Stands (bytes ++ take n piece)) → IsTaken texts Stood Stands before left n
goes texts Stood Stands before left piece n fits room takes fed = record {
  some = λ some bytes s. record {
    bytes = bytes ++ take n piece;
    stands = fed bytes s;
    size = let a = length-append bytes (take n piece) in let b = length-take n piece in omega arith;
    taken = λ told. ap (λ (xs : List ℕ). bytes ++ xs) (takes told).taken ∙ sym (append_assoc bytes (take n piece) left);
  };
  none = λ none bytes s. record {
    bytes = bytes ++ take n piece;
    stands = fed bytes s;
    all = λ told. ap (λ (xs : List ℕ). bytes ++ xs) (nothing n piece none ∙ sym ((takes told).ended none room));
  };
}

-- the judge wants no more, and stands for whatever comes
pub stops : (texts : Option (List (List ℕ × List ℕ))) (Stood Stands : List ℕ → Type 0) (before left piece : List ℕ) (n : ℕ) → ((bytes more : List ℕ) → Stands bytes → Stands (bytes ++ more)) → (IsSome texts → Takes before left piece n) →
    ((bytes : List ℕ) → Stood bytes → Stands (bytes ++ take n piece)) → IsTaken texts Stood Stands before left 0
stops texts Stood Stands before left piece n stays takes fed = record {
  some = λ some. absurd (omega arith);
  none = λ none bytes s. record {
    bytes = (bytes ++ take n piece) ++ left;
    stands = stays (bytes ++ take n piece) left (fed bytes s);
    all = λ told. append_assoc bytes (take n piece) left ∙ ap (λ (xs : List ℕ). bytes ++ xs) (sym (takes told).taken);
  };
}

-- Read after read.

pub takes_on : (texts : Option (List (List ℕ × List ℕ))) (Stood Stands : List ℕ → Type 0) (whole left left' : List ℕ) (count n : ℕ) → HasTaken texts Stood whole left count → IsTaken texts Stood Stands left left' n → 1 ≤ n →
    HasTaken texts Stands whole left' (count + n)
takes_on texts Stood Stands whole left left' count n has is some =
    let r = is.some some has.bytes has.stands in
    record { bytes = r.bytes; stands = r.stands; size = r.size ∙ ap (λ (c : ℕ). c + n) has.size; taken = λ told. has.taken told ∙ r.taken told }

pub takes_all : (texts : Option (List (List ℕ × List ℕ))) (Stood Stands : List ℕ → Type 0) (whole left left' : List ℕ) (count n : ℕ) → HasTaken texts Stood whole left count → IsTaken texts Stood Stands left left' n → n ≡ 0 → HasAll texts Stands whole
takes_all texts Stood Stands whole left left' count n has is none =
    let r = is.none none has.bytes has.stands in
    record { bytes = r.bytes; stands = r.stands; all = λ told. r.all told ∙ sym (has.taken told) }

-- after so many bytes the judge wants no more
pub takes_most : (texts : Option (List (List ℕ × List ℕ))) (Stands : List ℕ → Type 0) (whole left : List ℕ) (count : ℕ) → HasTaken texts Stands whole left count → ((bytes more : List ℕ) → length bytes ≡ count → Stands bytes → Stands (bytes ++ more)) → HasAll texts Stands whole
takes_most texts Stands whole left count has stays = record { bytes = has.bytes ++ left; stands = stays has.bytes left has.size has.stands; all = λ told. sym (has.taken told) }

-- At the end.

text_told : (texts : Option (List (List ℕ × List ℕ))) (Stands : List ℕ → Type 0) (name left : List ℕ) (all : HasAll texts Stands left) → Begins texts name left → IsTextUnder texts name all.bytes
text_told None Stands name left all begins = tt
text_told (Some ts) Stands name left all begins = all.all refl ∙ begins

pub told : (texts : Option (List (List ℕ × List ℕ))) (Stands : List ℕ → Type 0) (name left : List ℕ) → HasAll texts Stands left → Begins texts name left → HasText texts Stands name
told texts Stands name left all begins = record { bytes = all.bytes; stands = all.stands; is_text = text_told texts Stands name left all begins }
