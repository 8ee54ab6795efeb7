-- Lines of numbers: they are kept, can be written, and spell the numbers.
use Rattle.std.proofs.Common.{◌≡◌, ℕ, suc, ◌+◌, ◌*◌, ◌^◌, ◌≤◌, ◌<◌, Bool, true, false, not, ◌||◌, leb, List, [], ◌∷◌, ◌++◌, length, map, Some, refl, sym, ap, subst, ◌∙◌, arith, length-append}
use Rattle.std.specs.List.{AllByRecursion, list_all}
use Rattle.std.specs.Fmt.{decimal}
use Rattle.std.proofs.lemmas.Bool.{and_parts, and_from, le-leb}
use Rattle.std.proofs.lemmas.Fmt.{length-decimal-le}
use Rattle.std.proofs.lemmas.List.{map-append}
use Rattle.std.proofs.lemmas.List.Concat.{flat_map-cons}
use Rattle.std.proofs.lemmas.Grind.{flat_map-append}
use Rattle.std.proofs.lemmas.List.Folds.{list_all-append}
use Rattle.psplib_lex.specs.Line.{Line, is_blank, is_line_end, is_kept, words_of, line_from, numbered}
use Rattle.psplib_lex.specs.Number.{word_value}
use Rattle.psplib_layout.specs.Part.{words_in, Spells, HasPart}
use Rattle.project_net.specs.Canonical.{spaced, row, stars}
use Rattle.psplib_canonical.proofs.Words.{is_plain, is_word, words_of-spaced, word_value-decimal, decimal-word, Begins, decimal-begins}
use Rattle.psplib_canonical.proofs.Kept.{is_whole, is_fit, keep, kept, skip, steps}

-- ---- words in a line

plain_whole : (byte : ℕ) → is_plain byte ≡ true → not (is_line_end byte) ≡ true
plain_whole byte h = go (is_blank byte) (is_line_end byte) h
  where
    go : (a b : Bool) → not (a || b) ≡ true → not b ≡ true
    go true b h = absurd cc
    go false b h = h

plains_whole : (word : List ℕ) → list_all is_plain word ≡ true → is_whole word ≡ true
plains_whole [] h = refl
plains_whole (b ∷ bs) h = let k = and_parts (is_plain b) (list_all is_plain bs) h in and_from (not (is_line_end b)) (is_whole bs) (plain_whole b k.0) (plains_whole bs k.1)

pub word_whole : (word : List ℕ) → is_word word ≡ true → is_whole word ≡ true
word_whole [] h = absurd cc
word_whole (b ∷ bs) h = plains_whole (b ∷ bs) h

pub whole-append : (xs ys : List ℕ) → is_whole xs ≡ true → is_whole ys ≡ true → is_whole (xs ++ ys) ≡ true
whole-append xs ys h k = list_all-append (λ b. not (is_line_end b)) xs ys ∙ and_from (is_whole xs) (is_whole ys) h k

pub spaced_whole : (words : List (List ℕ)) → list_all is_word words ≡ true → is_whole (spaced words) ≡ true
spaced_whole [] h = refl
spaced_whole (x ∷ []) h = word_whole x (and_parts (is_word x) true h).0
spaced_whole (x ∷ y ∷ ws) h =
    let k = and_parts (is_word x) (list_all is_word (y ∷ ws)) h in
    whole-append x (0x20 ∷ spaced (y ∷ ws)) (word_whole x k.0) (spaced_whole (y ∷ ws) k.1)

-- at most 20 bytes
abbrev pub is_short : List ℕ → Bool
is_short word = leb (length word) 20

pub spaced_short : (words : List (List ℕ)) → AllByRecursion (λ w. length w ≤ 20) words → length (spaced words) ≤ 21 * length words
spaced_short [] h = omega arith
spaced_short (x ∷ []) h = let k = h.0 in let one : length (x ∷ []) ≡ 1 = refl in omega arith
spaced_short (x ∷ y ∷ ws) h =
    let k = h.0 in
    let later = spaced_short (y ∷ ws) h.1 in
    let both : length (x ++ 0x20 ∷ spaced (y ∷ ws)) ≡ length x + length (0x20 ∷ spaced (y ∷ ws)) = length-append x (0x20 ∷ spaced (y ∷ ws)) in
    let more : length (0x20 ∷ spaced (y ∷ ws)) ≡ suc (length (spaced (y ∷ ws))) = refl in
    let size : length (x ∷ y ∷ ws) ≡ suc (length (y ∷ ws)) = refl in
    omega arith

pub fit-from : (line : List ℕ) → is_whole line ≡ true → length line ≤ 2800 → is_fit line ≡ true
fit-from line h k = and_from (is_whole line) (leb (length line) 2800) h (le-leb (length line) 2800 k)

-- ---- numbers in a line

abbrev pub IsSmall : ℕ → Type 0
IsSmall n = n < 2 ^ 64

-- one or more numbers, at most 132
pub record IsRow (numbers : List ℕ) : Type 0 where
  pub some : 1 ≤ length numbers
  pub few : length numbers ≤ 132
  pub small : AllByRecursion IsSmall numbers

decimal_words : (numbers : List ℕ) → AllByRecursion IsSmall numbers → list_all is_word (map decimal numbers) ≡ true
decimal_words [] h = refl
decimal_words (n ∷ ns) h = and_from (is_word (decimal n)) (list_all is_word (map decimal ns)) (decimal-word n h.0) (decimal_words ns h.1)

decimal_short : (n : ℕ) → IsSmall n → length (decimal n) ≤ 20
decimal_short n h = length-decimal-le 20 n (omega arith) (let small : n < 2 ^ 64 = h in omega arith) h

decimals_short : (numbers : List ℕ) → AllByRecursion IsSmall numbers → AllByRecursion (λ w. length w ≤ 20) (map decimal numbers)
decimals_short [] h = tt
decimals_short (n ∷ ns) h = (decimal_short n h.0, decimals_short ns h.1)

pub small-append : (xs ys : List ℕ) → AllByRecursion IsSmall xs → AllByRecursion IsSmall ys → AllByRecursion IsSmall (xs ++ ys)
small-append [] ys h k = k
small-append (x ∷ xs) ys h k = (h.0, small-append xs ys h.1 k)

spelled : (numbers : List ℕ) → AllByRecursion IsSmall numbers → Spells (map decimal numbers) numbers
spelled [] h = refl
spelled (n ∷ ns) h = rw (word_value-decimal n h.0, spelled ns h.1) refl

row_words : (numbers : List ℕ) → AllByRecursion IsSmall numbers → words_of (row numbers) ≡ map decimal numbers
row_words numbers h = words_of-spaced (map decimal numbers) (decimal_words numbers h)

abbrev pub keeps : List (List ℕ) → Bool
keeps words = is_kept (record { number = 0; words = words })

begins_kept : (word : List ℕ) (words : List (List ℕ)) → Begins word → keeps (word ∷ words) ≡ true
begins_kept word words b =
    subst (λ (w : List ℕ). keeps (w ∷ words) ≡ true) (sym b.is) (rw (b.no_star, b.no_hyphen) refl)

row_kept : (numbers : List ℕ) → IsRow numbers → keep (row numbers) ≡ true
row_kept [] h = absurd (let k = h.some in omega arith)
row_kept (n ∷ ns) h = ap keeps (row_words (n ∷ ns) h.small) ∙ begins_kept (decimal n) (map decimal ns) (decimal-begins n h.small.0)

length-decimals : (numbers : List ℕ) → length (map decimal numbers) ≡ length numbers
length-decimals [] = refl
length-decimals (n ∷ ns) = ap suc (length-decimals ns)

row_fit : (numbers : List ℕ) → IsRow numbers → is_fit (row numbers) ≡ true
row_fit numbers h =
    let few = h.few in
    let size = length-decimals numbers in
    let short = spaced_short (map decimal numbers) (decimals_short numbers h.small) in
    fit-from (row numbers) (spaced_whole (map decimal numbers) (decimal_words numbers h.small)) (omega arith)

-- ---- lines of numbers

-- each line is kept and can be written, and all of them together spell these numbers
pub record AreLines (lines : List (List ℕ)) (numbers : List ℕ) : Type 0 where
  pub kept : list_all keep lines ≡ true
  pub fit : list_all is_fit lines ≡ true
  pub spelled : (n : ℕ) → Spells (words_in (numbered n lines)) numbers

pub no_lines : AreLines [] []
no_lines = record { kept = refl; fit = refl; spelled = λ n. refl }

spelled-cons : (n : ℕ) (line : List ℕ) (lines : List (List ℕ)) (xs ys : List ℕ) → Spells (words_of line) xs → Spells (words_in (numbered (n + 1) lines)) ys → Spells (words_in (numbered n (line ∷ lines))) (xs ++ ys)
spelled-cons n line lines xs ys h k =
    ap (map word_value) (flat_map-cons (λ (l : Line). l.words) (line_from n line) (numbered (n + 1) lines))
    ∙ map-append word_value (words_of line) (words_in (numbered (n + 1) lines))
    ∙ rw (h, k) (sym (map-append Some xs ys))

pub row_line : (numbers : List ℕ) (lines : List (List ℕ)) (more : List ℕ) → IsRow numbers → AreLines lines more → AreLines (row numbers ∷ lines) (numbers ++ more)
row_line numbers lines more h k = record {
  kept = and_from (keep (row numbers)) (list_all keep lines) (row_kept numbers h) k.kept;
  fit = and_from (is_fit (row numbers)) (list_all is_fit lines) (row_fit numbers h) k.fit;
  spelled = λ n. spelled-cons n (row numbers) lines numbers more (ap (map word_value) (row_words numbers h.small) ∙ spelled numbers h.small) (k.spelled (n + 1));
}

numbered-append : (n : ℕ) (xs ys : List (List ℕ)) → numbered n (xs ++ ys) ≡ numbered n xs ++ numbered (n + length xs) ys
numbered-append n [] ys = let e : n ≡ n + 0 = omega arith in ap (λ (k : ℕ). numbered k ys) e
numbered-append n (x ∷ xs) ys =
    let e : n + 1 + length xs ≡ n + length (x ∷ xs) = omega arith in
    ap (λ (ls : List Line). line_from n x ∷ ls) (numbered-append (n + 1) xs ys ∙ ap (λ (k : ℕ). numbered (n + 1) xs ++ numbered k ys) e)

words_in-append : (n : ℕ) (xs ys : List (List ℕ)) (ns more : List ℕ) → Spells (words_in (numbered n xs)) ns → ((m : ℕ) → Spells (words_in (numbered m ys)) more) → Spells (words_in (numbered n (xs ++ ys))) (ns ++ more)
words_in-append n xs ys ns more h k =
    ap (λ (ls : List Line). map word_value (words_in ls)) (numbered-append n xs ys)
    ∙ ap (map word_value) (flat_map-append (λ (l : Line). l.words) (numbered n xs) (numbered (n + length xs) ys))
    ∙ map-append word_value (words_in (numbered n xs)) (words_in (numbered (n + length xs) ys))
    ∙ rw (h, k (n + length xs)) (sym (map-append Some ns more))

pub lines_behind : (xs ys : List (List ℕ)) (ns more : List ℕ) → AreLines xs ns → AreLines ys more → AreLines (xs ++ ys) (ns ++ more)
lines_behind xs ys ns more h k = record {
  kept = list_all-append keep xs ys ∙ and_from (list_all keep xs) (list_all keep ys) h.kept k.kept;
  fit = list_all-append is_fit xs ys ∙ and_from (list_all is_fit xs) (list_all is_fit ys) h.fit k.fit;
  spelled = λ n. words_in-append n xs ys ns more (h.spelled n) k.spelled;
}

stars_rule : keep stars ≡ false
unfolding stars words_of
stars_rule = refl

-- the lines are a part, and a line of stars ends it
pub part_of : (n : ℕ) (lines rest : List (List ℕ)) (numbers : List ℕ) → AreLines lines numbers → HasPart numbers (kept n (lines ++ stars ∷ rest)) (kept (n + length lines + 1) rest)
part_of n lines rest numbers h = record {
  part = numbered n lines;
  lines_are =
      steps n lines (stars ∷ rest) h.kept
      ∙ ap (λ (ls : List Line). numbered n lines ++ ls) (skip (n + length lines) stars rest (kept (n + length lines + 1) rest) stars_rule refl);
  spelled = h.spelled n;
}
