-- Bytes cut at each separator, where the parts have only bytes above it.
use Rattle.std.proofs.Common.{◌≡◌, ℕ, ◌≤◌, ◌∙◌, arith, refl, ap, Bool, true, false, ◌&&◌, List, [], ◌∷◌, ◌++◌}
use Rattle.std.specs.Prelude.{◌==◌, nat_lt}
use Rattle.std.specs.List.{slice_split, onto_first, list_all, join_with_byte}
use Rattle.std.proofs.lemmas.Bool.Decides.{nat_tests}

-- whether all bytes are above the separator
abbrev pub is_above : ℕ → List ℕ → Bool
is_above sep bytes = list_all (λ byte. nat_lt sep byte) bytes

pub parts_true : (a b : Bool) → a && b ≡ true → (a ≡ true) × (b ≡ true)
parts_true true true h = (refl, refl)
parts_true true false h = absurd (cc)
parts_true false b h = absurd (cc)

other : (sep byte : ℕ) → nat_lt sep byte ≡ true → byte == sep ≡ false
other sep byte h = grind (arith, nat_tests)

itself : (sep : ℕ) → sep == sep ≡ true
itself sep = grind (arith, nat_tests)

pub last_part : (sep : ℕ) (bytes : List ℕ) → is_above sep bytes ≡ true → slice_split (λ byte. byte == sep) bytes ≡ bytes ∷ []
last_part sep [] h = refl
last_part sep (byte ∷ bytes) h =
    let two = parts_true (nat_lt sep byte) (is_above sep bytes) h in
    rw (other sep byte two.0) (ap (onto_first byte) (last_part sep bytes two.1))

pub first_part : (sep : ℕ) (bytes rest : List ℕ) → is_above sep bytes ≡ true → slice_split (λ byte. byte == sep) (bytes ++ sep ∷ rest) ≡ bytes ∷ slice_split (λ byte. byte == sep) rest
first_part sep [] rest h = rw (itself sep)
first_part sep (byte ∷ bytes) rest h =
    let two = parts_true (nat_lt sep byte) (is_above sep bytes) h in
    rw (other sep byte two.0) (ap (onto_first byte) (first_part sep bytes rest two.1))

-- parts joined by the separator are cut there again
pub joined_parts : (sep : ℕ) (part : List ℕ) (parts : List (List ℕ)) → list_all (is_above sep) (part ∷ parts) ≡ true → slice_split (λ byte. byte == sep) (join_with_byte sep (part ∷ parts)) ≡ part ∷ parts
joined_parts sep part [] h = last_part sep part (parts_true (is_above sep part) true h).0
joined_parts sep part (next ∷ parts) h =
    let two = parts_true (is_above sep part) (list_all (is_above sep) (next ∷ parts)) h in
    first_part sep part (join_with_byte sep (next ∷ parts)) two.0 ∙ ap (λ (ps : List (List ℕ)). part ∷ ps) (joined_parts sep next parts two.1)

above_append : (sep : ℕ) (xs ys : List ℕ) → is_above sep xs ≡ true → is_above sep ys ≡ true → is_above sep (xs ++ ys) ≡ true
above_append sep [] ys h k = k
above_append sep (x ∷ xs) ys h k =
    let two = parts_true (nat_lt sep x) (is_above sep xs) h in rw (two.0, above_append sep xs ys two.1 k)

above_less : (low high : ℕ) (bytes : List ℕ) → low ≤ high → is_above high bytes ≡ true → is_above low bytes ≡ true
above_less low high [] less h = refl
above_less low high (byte ∷ bytes) less h =
    let two = parts_true (nat_lt high byte) (is_above high bytes) h in
    let here : nat_lt low byte ≡ true = at (two.0) in
    rw (here, above_less low high bytes less two.1)
  where
    at : nat_lt high byte ≡ true → nat_lt low byte ≡ true
    at t = grind (arith, nat_tests)

-- what joins words above blanks is above LF
pub joined_above : (parts : List (List ℕ)) → list_all (is_above 32) parts ≡ true → is_above 10 (join_with_byte 32 parts) ≡ true
joined_above [] h = refl
joined_above (part ∷ []) h = above_less 10 32 part (omega arith) (parts_true (is_above 32 part) true h).0
joined_above (part ∷ next ∷ parts) h =
    let two = parts_true (is_above 32 part) (list_all (is_above 32) (next ∷ parts)) h in
    above_append 10 part (32 ∷ join_with_byte 32 (next ∷ parts)) (above_less 10 32 part (omega arith) two.0) (joined_above (next ∷ parts) two.1)
