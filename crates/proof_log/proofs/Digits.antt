-- Reading the digits of a number from the left.
use Rattle.std.proofs.Common.{◌≡◌, ℕ, ◌+◌, ◌-◌, ◌*◌, ◌^◌, ◌<◌, ◌≤◌, ◌∙◌, arith, refl, Bool, true, false, cond, ◌&&◌, List, [], ◌∷◌, length, drop, get_or, add-one}
use Rattle.std.specs.Prelude.{nat_le, Some, None}
use Rattle.std.specs.Char.{is_ascii_digit}
use Rattle.std.specs.Str.{all_ascii_digits}
use Rattle.std.proofs.Math.Nat.{pow-le-pow_right}
use Rattle.std.proofs.lemmas.Bool.Decides.{nat_tests}
use Rattle.std.proofs.lemmas.List.{at_drop_more, at_drop_all}
use Rattle.proof_log.specs.Reading.{value_after, may_be_number, number_in}

both : (a b : Bool) → a && b ≡ true → a ≡ true
both true b h = refl
both false b h = absurd (cc)

-- no more than nine bytes
pub short : (word : List ℕ) → may_be_number word ≡ true → length word ≤ 9
unfolding may_be_number
short [] h = omega arith
short (first ∷ more) h = let test : nat_le (length (first ∷ more)) 9 ≡ true = both _ _ h in grind (arith, nat_tests)

pub next_value : (n : ℕ) (word : List ℕ) (i : ℕ) → i < length word → value_after n (drop i word) ≡ value_after (10 * n + (get_or word i 0 - 0x30)) (drop (i + 1) word)
next_value n word i within = at_drop_more (value_after n) word i 0 within

pub next_digit : (word : List ℕ) (i : ℕ) → i < length word → all_ascii_digits (drop i word) ≡ (is_ascii_digit (get_or word i 0) && all_ascii_digits (drop (i + 1) word))
next_digit word i within = at_drop_more all_ascii_digits word i 0 within

pub power : (i : ℕ) → i < 9 → 10 ^ i ≤ 100000000
power i h = pow-le-pow_right {n = 10} (omega arith) {i = i} {j = 8} (omega arith)

pub next_power : (n d i : ℕ) → n < 10 ^ i → d ≤ 9 → 10 * n + d < 10 ^ (i + 1)
next_power n d i h small = rw add-one (omega arith)

pub digit_range : (byte : ℕ) → is_ascii_digit byte ≡ true → (48 ≤ byte) × (byte ≤ 57)
digit_range byte h = (grind (arith, nat_tests), grind (arith, nat_tests))

-- a word with another byte is no number
pub other_byte : (word : List ℕ) (i : ℕ) → i < length word → is_ascii_digit (get_or word i 0) ≡ false → all_ascii_digits (drop i word) ≡ false
other_byte word i within other = next_digit word i within ∙ rw other

pub digit_more : (word : List ℕ) (i : ℕ) → i < length word → is_ascii_digit (get_or word i 0) ≡ true → all_ascii_digits (drop i word) ≡ all_ascii_digits (drop (i + 1) word)
digit_more word i within digit = next_digit word i within ∙ rw digit

pub no_number : (word : List ℕ) → may_be_number word ≡ false → number_in word ≡ None
unfolding number_in
no_number word h = rw h

pub no_digits : (word : List ℕ) → all_ascii_digits word ≡ false → number_in word ≡ None
unfolding number_in
no_digits word h = rw h (at (may_be_number word))
  where
    at : (b : Bool) → cond (b && false) (Some (value_after 0 word)) None ≡ None
    at true = refl
    at false = refl

pub whole_number : (word : List ℕ) (n : ℕ) → may_be_number word ≡ true → all_ascii_digits word ≡ true → value_after 0 word ≡ n → number_in word ≡ Some n
unfolding number_in
whole_number word n may digits value = rw (may, digits, value)

pub digits_end : (word : List ℕ) (i : ℕ) → length word ≤ i → all_ascii_digits (drop i word) ≡ true
digits_end word i past = at_drop_all all_ascii_digits word i past

pub value_end : (word : List ℕ) (n i : ℕ) → length word ≤ i → value_after n (drop i word) ≡ n
value_end word n i past = at_drop_all (value_after n) word i past
