-- Numbers and `-` as words, read and written.
use Rattle.std.proofs.Common.{◌≡◌, ℕ, zero, suc, ◌^◌, ◌<◌, ◌≤◌, ◌∙◌, ◌⊎◌, inl, inr, arith, rules, refl, sym, ap, subst, Bool, true, false, cond, ◌&&◌, ◌||◌, not, List, [], ◌∷◌, length, get_or, Option, Some, None, codes, decimal}
use Rattle.std.specs.Prelude.{◌==◌, nat_le, IfSome, option_map, option_and_then}
use Rattle.std.specs.Str.{bytes_eq, all_ascii_digits}
use Rattle.std.proofs.lemmas.Bool.{cases_Bool}
use Rattle.std.proofs.lemmas.Bool.Decides.{nat_tests}
use Rattle.std.proofs.lemmas.Fmt.{decimal-digits_value, digits_decimal, digits_value-decimal, length-decimal-le, decimal_nonempty, first_decimal, decimal_digit}
use Rattle.std.proofs.lemmas.Slice.Eq.{bytes_eq-Decides}
use Rattle.std.proofs.lemmas.Str.Parse.{IsNumeralModel, numerals_by_fold, tells_all_ascii_digits, digits_value_short}
use Rattle.proof_log.specs.Line.{number_word, IsNumber}
use Rattle.proof_log.specs.Reading.{value_after, may_be_number, number_in, place_in}
use Rattle.proof_log.proofs.Digits.{short, whole_number}

-- which way a test went
pub chosen : {A : Type 0} (b : Bool) (x y z : A) → cond b x y ≡ z → ((b ≡ true) × (x ≡ z)) ⊎ ((b ≡ false) × (y ≡ z))
chosen true x y z h = inl (refl, h)
chosen false x y z h = inr (refl, h)

-- only where the test holds there is something
pub only : {A : Type 0} (b : Bool) (x y : A) → cond b (Some x) None ≡ Some y → (b ≡ true) × (x ≡ y)
only true x y h = (refl, cc)
only false x y h = absurd (cc)

pub mapped : {A B : Type 0} (f : A → B) (o : Option A) (y : B) → option_map f o ≡ Some y → (x : A) × (o ≡ Some x) × (f x ≡ y)
mapped f None y h = absurd (cc)
mapped f (Some x) y h = (x, refl, cc)

pub bound : {A B : Type 0} (f : A → Option B) (o : Option A) (y : B) → option_and_then f o ≡ Some y → (x : A) × (o ≡ Some x) × (f x ≡ Some y)
bound f None y h = absurd (cc)
bound f (Some x) y h = (x, refl, h)

pub same_word : (word text : List ℕ) → bytes_eq word text ≡ true → word ≡ text
same_word word text h = (bytes_eq-Decides word text).0 h

own : IsNumeralModel (λ (ds : List ℕ). all_ascii_digits ds ≡ true) (value_after 0)
own = numerals_by_fold _ tells_all_ascii_digits value_after (search rules)

and_true : (a b : Bool) → a && b ≡ true → (a ≡ true) × (b ≡ true)
and_true true true h = (refl, refl)
and_true true false h = absurd (cc)
and_true false b h = absurd (cc)

may_parts : (word : List ℕ) → may_be_number word ≡ true → (0 < length word) × (get_or word 0 0 ≡ 48 → length word ≡ 1)
unfolding may_be_number
may_parts [] h = absurd (cc)
may_parts (first ∷ more) h =
    let parts = and_true (nat_le (length (first ∷ more)) 9) (length (first ∷ more) == 1 || not (first == 0x30)) h in
    (omega arith, λ zero_. grind (arith, nat_tests, parts.1))

may_from : (word : List ℕ) → 0 < length word → length word ≤ 9 → (length word ≡ 1) ⊎ (48 < get_or word 0 0) → may_be_number word ≡ true
unfolding may_be_number
may_from [] some few first = absurd (omega arith)
may_from (first ∷ more) some few (inl one) = grind (arith, nat_tests)
may_from (first ∷ more) some few (inr more_) = grind (arith, nat_tests)

-- a number that is read is written so
pub number_found : (word : List ℕ) (n : ℕ) → number_in word ≡ Some n → (decimal n ≡ word) × IsNumber n
unfolding number_in
number_found word n h =
    let read = only (may_be_number word && all_ascii_digits word) (value_after 0 word) n h in
    let tests = and_true (may_be_number word) (all_ascii_digits word) read.0 in
    let parts = may_parts word tests.0 in
    let small : value_after 0 word < 10 ^ 9 = digits_value_short own word 9 tests.1 (short word tests.0) in
    let text = decimal-digits_value own word tests.1 parts.0 parts.1 (omega arith) in
    (ap decimal (sym read.1) ∙ text, omega (arith, read.1))

-- a number that is written is read again
pub number_again : (n : ℕ) → IsNumber n → number_in (decimal n) ≡ Some n
number_again n small =
    let fits : n < 2 ^ 64 = omega arith in
    let first : (length (decimal n) ≡ 1) ⊎ (48 < get_or (decimal n) 0 0) = at n refl fits in
    whole_number (decimal n) n (may_from (decimal n) (decimal_nonempty n fits) (length-decimal-le 9 n (omega arith) (omega arith) fits) first) (digits_decimal own n fits) (digits_value-decimal own n fits)
  where
    at : (m : ℕ) → m ≡ n → n < 2 ^ 64 → (length (decimal n) ≡ 1) ⊎ (48 < get_or (decimal n) 0 0)
    at zero e fits = inl (ap (λ (k : ℕ). length (decimal k)) (sym e) ∙ ap (λ (ds : List ℕ). length ds) (decimal_digit 0 (omega arith)))
    at (suc m) e fits = inr (first_decimal n (omega arith) fits)

pub digits_of_number : (n : ℕ) → IsNumber n → all_ascii_digits (decimal n) ≡ true
digits_of_number n small = digits_decimal own n (omega arith)

-- a decimal number is no word that isn't all digits
pub no_number_word : (n : ℕ) (text : List ℕ) → IsNumber n → all_ascii_digits text ≡ false → bytes_eq (decimal n) text ≡ false
no_number_word n text small other = elim (cases_Bool (bytes_eq (decimal n) text)) [
  | inl same ↦
      let digits = digits_of_number n small in
      let e = ap all_ascii_digits (same_word (decimal n) text same) in absurd (cc)
  | inr differ ↦ differ
]

-- the same of a number or `-`
pub place_found : (word : List ℕ) (o : Option ℕ) → place_in word ≡ Some o → (number_word o ≡ word) × IfSome o IsNumber
unfolding place_in number_word
place_found word o h = elim (chosen (bytes_eq word (codes "-")) (Some None) (option_map (λ n. Some n) (number_in word)) (Some o) h) [
  | inl dash ↦
      let none : None ≡ o = cc dash.1 in
      subst (λ (p : Option ℕ). (number_word p ≡ word) × IfSome p IsNumber) none (sym (same_word word (codes "-") dash.0), tt)
  | inr other ↦
      let some = mapped (λ (n : ℕ). Some n) (number_in word) o other.1 in
      subst (λ (p : Option ℕ). (number_word p ≡ word) × IfSome p IsNumber) some.2 (number_found word some.0 some.1)
]

pub place_again : (o : Option ℕ) → IfSome o IsNumber → place_in (number_word o) ≡ Some o
unfolding place_in number_word
place_again None h = refl
place_again (Some n) h = rw (no_number_word n (codes "-") h refl, number_again n h)
