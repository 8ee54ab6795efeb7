-- Bytes cut at each blank.
use Rattle.std.proofs.Common.{◌≡◌, ℕ, ◌+◌, ◌-◌, ◌≤◌, ◌∙◌, inl, inr, arith, refl, ap, Bool, true, false, cond, not, List, [], ◌∷◌, length, take, drop, Some, None, length-drop}
use Rattle.std.specs.Prelude.{◌==◌, nat_lt, position}
use Rattle.std.specs.List.{slice_split, onto_first, position_or_len}
use Rattle.std.proofs.lemmas.Bool.{cases_lt}
use Rattle.std.proofs.lemmas.Bool.Decides.{nat_tests}
use Rattle.std.proofs.lemmas.List.{take_all}
use Rattle.std.proofs.lemmas.List.Splits.{slice_split_first, length-slice_split}
use Rattle.proof_log.specs.Reading.{words_in, line_in}

abbrev is_blank : ℕ → Bool
is_blank byte = byte == 0x20

whole : (bytes : List ℕ) → length bytes ≤ position_or_len is_blank bytes → slice_split is_blank bytes ≡ bytes ∷ []
whole [] h = refl
whole (byte ∷ bytes) h = at (is_blank byte) h (whole bytes)
  where
    at : (b : Bool) → length (byte ∷ bytes) ≤ cond (not b) (1 + position_or_len is_blank bytes) 0 → (length bytes ≤ position_or_len is_blank bytes → slice_split is_blank bytes ≡ bytes ∷ []) →
        cond b ([] ∷ slice_split is_blank bytes) (onto_first byte (slice_split is_blank bytes)) ≡ (byte ∷ bytes) ∷ []
    at true h rest = absurd (omega arith)
    at false h rest = ap (onto_first byte) (rest (omega arith))

-- without a blank the bytes are one word
pub one_word : (bytes : List ℕ) → position is_blank bytes ≡ None → words_in bytes ≡ bytes ∷ []
unfolding words_in
one_word bytes none = elim (cases_lt (position_or_len is_blank bytes) (length bytes)) [
  | inl less ↦ let test : nat_lt (position_or_len is_blank bytes) (length bytes) ≡ true = grind (arith, nat_tests) in absurd (cc test)
  | inr all ↦ whole bytes all
]

-- with one, the first word stands before the first blank, and the others after it
pub first_word : (bytes : List ℕ) (end : ℕ) → position is_blank bytes ≡ Some end → words_in bytes ≡ take end bytes ∷ words_in (take (length bytes - (end + 1)) (drop (end + 1) bytes))
unfolding words_in
first_word bytes end found = elim (cases_lt (position_or_len is_blank bytes) (length bytes)) [
  | inl less ↦
      let test : nat_lt (position_or_len is_blank bytes) (length bytes) ≡ true = grind (arith, nat_tests) in
      let here : position_or_len is_blank bytes ≡ end = cc test in
      let rest : take (length bytes - (end + 1)) (drop (end + 1) bytes) ≡ drop (end + 1) bytes = take_all (length bytes - (end + 1)) (drop (end + 1) bytes) (omega (arith, length-drop (end + 1) bytes)) in
      rw rest (slice_split_first is_blank bytes 0 less ∙ ap (λ (i : ℕ). take i bytes ∷ slice_split is_blank (drop (i + 1) bytes)) here)
  | inr all ↦ let test : nat_lt (position_or_len is_blank bytes) (length bytes) ≡ false = grind (arith, nat_tests) in absurd (cc test)
]

-- no line has more than five words
pub no_sixth : (a b c d e bytes : List ℕ) → line_in (a ∷ b ∷ c ∷ d ∷ e ∷ words_in bytes) ≡ None
unfolding line_in words_in
no_sixth a b c d e bytes = at (slice_split is_blank bytes) (omega (arith, length-slice_split is_blank bytes))
  where
    at : (words : List (List ℕ)) → 1 ≤ length words → line_in (a ∷ b ∷ c ∷ d ∷ e ∷ words) ≡ None
    at [] h = absurd (omega arith)
    at (word ∷ more) h = refl
