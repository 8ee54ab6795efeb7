-- Words with one blank between two are read one by one.
use Rattle.std.proofs.Common.{◌≡◌, ℕ, ◌+◌, ◌-◌, ◌*◌, ◌^◌, ◌≤◌, ◌<◌, Bool, true, false, cond, not, ◌&&◌, ◌||◌, eqb, List, [], ◌∷◌, ◌++◌, length, fold, filter, Some, refl, ap, ◌∙◌, arith, rules}
use Rattle.std.proofs.lemmas.Bool.{ne_eqb, and_parts, and_from}
use Rattle.std.proofs.lemmas.Bool.Decides.{nat_tests}
use Rattle.std.specs.List.{AllByRecursion, list_all, slice_split, onto_first}
use Rattle.std.specs.Fmt.{decimal}
use Rattle.std.proofs.lemmas.Fmt.{digits_decimal, digits_value-decimal, decimal_nonempty}
use Rattle.std.proofs.lemmas.Str.Parse.{IsDigitsTest, FoldsDigits, IsNumeralModel, numerals_by_fold}
use Rattle.std.proofs.lemmas.List.Splits.{slice_split_none, length-slice_split}
use Rattle.std.proofs.lemmas.List.Elements.{All-from_recursion, filter-append}
use Rattle.psplib_lex.specs.Line.{is_blank, is_line_end, has_bytes, words_of}
use Rattle.psplib_lex.specs.Number.{is_digit, word_value}
use Rattle.project_net.specs.Canonical.{spaced}

-- ---- cutting at a blank

onto_first-append : (x : ℕ) (front back : List (List ℕ)) → 1 ≤ length front → onto_first x (front ++ back) ≡ onto_first x front ++ back
onto_first-append x [] back some = absurd (omega arith)
onto_first-append x (part ∷ parts) back some = refl

slice_split-append : (p : ℕ → Bool) (xs : List ℕ) (y : ℕ) (ys : List ℕ) → p y ≡ true → slice_split p (xs ++ y ∷ ys) ≡ slice_split p xs ++ slice_split p ys
slice_split-append p [] y ys h = ap (λ (b : Bool). cond b ([] ∷ slice_split p ys) (onto_first y (slice_split p ys))) h
slice_split-append p (x ∷ xs) y ys h =
    ap (λ (parts : List (List ℕ)). cond (p x) ([] ∷ parts) (onto_first x parts)) (slice_split-append p xs y ys h) ∙ go (p x)
  where
    go : (b : Bool) → cond b ([] ∷ (slice_split p xs ++ slice_split p ys)) (onto_first x (slice_split p xs ++ slice_split p ys)) ≡ cond b ([] ∷ slice_split p xs) (onto_first x (slice_split p xs)) ++ slice_split p ys
    go true = refl
    go false = onto_first-append x (slice_split p xs) (slice_split p ys) (let e = length-slice_split p xs in omega arith)

-- the words before a blank, and those behind it
pub words_of-append : (xs ys : List ℕ) → words_of (xs ++ 0x20 ∷ ys) ≡ words_of xs ++ words_of ys
unfolding words_of
words_of-append xs ys =
    ap (filter has_bytes) (slice_split-append is_blank xs 0x20 ys refl) ∙ filter-append has_bytes (slice_split is_blank xs) (slice_split is_blank ys)

-- ---- words

-- a byte that neither cuts words nor ends a line
abbrev pub is_plain : ℕ → Bool
is_plain byte = not (is_blank byte || is_line_end byte)

-- one or more such bytes
abbrev pub is_word : List ℕ → Bool
is_word word = has_bytes word && list_all is_plain word

blank_none : (byte : ℕ) → is_plain byte ≡ true → is_blank byte ≡ false
blank_none byte h = go (is_blank byte) (is_line_end byte) h
  where
    go : (a b : Bool) → not (a || b) ≡ true → a ≡ false
    go true b h = absurd cc
    go false b h = refl

blanks_none : (word : List ℕ) → list_all is_plain word ≡ true → AllByRecursion (λ b. is_blank b ≡ false) word
blanks_none [] h = tt
blanks_none (b ∷ bs) h = let k = and_parts (is_plain b) (list_all is_plain bs) h in (blank_none b k.0, blanks_none bs k.1)

pub words_of-word : (word : List ℕ) → is_word word ≡ true → words_of word ≡ word ∷ []
unfolding words_of
words_of-word word h =
    let k = and_parts (has_bytes word) (list_all is_plain word) h in
    ap (filter has_bytes) (slice_split_none is_blank word (All-from_recursion (λ b. is_blank b ≡ false) word (blanks_none word k.1)))
    ∙ ap (λ (b : Bool). cond b (word ∷ []) []) k.0

pub words_of-spaced : (words : List (List ℕ)) → list_all is_word words ≡ true → words_of (spaced words) ≡ words
unfolding words_of
words_of-spaced [] h = refl
words_of-spaced (x ∷ []) h = words_of-word x (and_parts (is_word x) true h).0
words_of-spaced (x ∷ y ∷ ws) h =
    let k = and_parts (is_word x) (list_all is_word (y ∷ ws)) h in
    words_of-append x (spaced (y ∷ ws)) ∙ ap (λ (v : List (List ℕ)). v ++ words_of (spaced (y ∷ ws))) (words_of-word x k.0) ∙ ap (λ (v : List (List ℕ)). x ∷ v) (words_of-spaced (y ∷ ws) k.1)

-- ---- numbers

abbrev with_digit : ℕ → ℕ → ℕ
with_digit n digit = 10 * n + (digit - 0x30)

own_test : IsDigitsTest (λ word. list_all is_digit word ≡ true)
own_test = search rules

own_fold : FoldsDigits (λ n word. fold with_digit n word)
own_fold = search rules

own : IsNumeralModel (λ word. list_all is_digit word ≡ true) (λ word. fold with_digit 0 word)
own = numerals_by_fold _ own_test (λ n word. fold with_digit n word) own_fold

pub word_value-decimal : (n : ℕ) → n < 2 ^ 64 → word_value (decimal n) ≡ Some n
unfolding word_value
word_value-decimal n h =
    let some : eqb (length (decimal n)) 0 ≡ false = ne_eqb _ _ (λ e. omega (arith, decimal_nonempty n h)) in
    rw (some, digits_decimal own n h) (ap Some (digits_value-decimal own n h))

digit_plain : (byte : ℕ) → is_digit byte ≡ true → is_plain byte ≡ true
digit_plain byte h =
    let low : 48 ≤ byte = grind (arith, nat_tests) in
    grind (arith, nat_tests)

digits_plain : (word : List ℕ) → list_all is_digit word ≡ true → list_all is_plain word ≡ true
digits_plain [] h = refl
digits_plain (b ∷ bs) h =
    let k = and_parts (is_digit b) (list_all is_digit bs) h in
    and_from (is_plain b) (list_all is_plain bs) (digit_plain b k.0) (digits_plain bs k.1)

some_bytes : (word : List ℕ) → 0 < length word → has_bytes word ≡ true
some_bytes [] h = absurd (omega arith)
some_bytes (b ∷ bs) h = refl

pub decimal-word : (n : ℕ) → n < 2 ^ 64 → is_word (decimal n) ≡ true
decimal-word n h = and_from (has_bytes (decimal n)) (list_all is_plain (decimal n)) (some_bytes (decimal n) (decimal_nonempty n h)) (digits_plain (decimal n) (digits_decimal own n h))

-- a number begins with a digit, which is no star and no hyphen
pub record Begins (word : List ℕ) : Type 0 where
  pub first : ℕ
  pub rest : List ℕ
  pub is : word ≡ first ∷ rest
  pub no_star : eqb first 0x2A ≡ false
  pub no_hyphen : eqb first 0x2D ≡ false

pub decimal-begins : (n : ℕ) → n < 2 ^ 64 → Begins (decimal n)
decimal-begins n h = go (decimal n) (decimal_nonempty n h) (digits_decimal own n h)
  where
    go : (word : List ℕ) → 0 < length word → list_all is_digit word ≡ true → Begins word
    go [] some all = absurd (omega arith)
    go (b ∷ bs) some all =
        let k = (and_parts (is_digit b) (list_all is_digit bs) all).0 in
        let low : 48 ≤ b = grind (arith, nat_tests) in
        record { first = b; rest = bs; is = refl; no_star = ne_eqb b 0x2A (λ e. omega arith); no_hyphen = ne_eqb b 0x2D (λ e. omega arith) }
