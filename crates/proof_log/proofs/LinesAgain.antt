-- The text of a line is cut into its words again.
use Rattle.std.proofs.Common.{◌≡◌, ℕ, ◌∙◌, inl, inr, arith, refl, sym, ap, true, ◌||◌, List, [], ◌∷◌, Option, Some, None, codes, decimal}
use Rattle.std.specs.Prelude.{◌==◌, nat_lt, IfSome}
use Rattle.std.specs.Char.{is_ascii_digit}
use Rattle.std.specs.List.{list_all, join_with_byte}
use Rattle.std.specs.Str.{all_ascii_digits}
use Rattle.std.proofs.lemmas.Bool.{cases_Bool}
use Rattle.std.proofs.lemmas.Bool.Decides.{nat_tests}
use Rattle.std.proofs.lemmas.List.Splits.{join_with_byte-slice_split}
use Rattle.proof_log.specs.declared.letter.TheConstants.{EXPANDED, LEAF, TAIL_BOUND, WORK_BOUND, BUDGET, CAPACITY, WORSE, CUTSET, LEFT}
use Rattle.proof_log.specs.declared.line.LogWords.{LogWords}
use Rattle.proof_log.specs.declared.line.ReportLine.{ReportLine}
use Rattle.proof_log.specs.declared.line.ReportLine.TheVariants.{Title, Optimal, Infeasible, Limit, Duration, Lower, Job, LogYes, LogNo, Log, End}
use Rattle.proof_log.specs.Line.{number_word, has_number, is_bare, fate_words, log_line_words, line_words, line_text, IsNumber, IsLogLine, IsLine}
use Rattle.proof_log.specs.Reading.{words_in, line_in}
use Rattle.proof_log.proofs.NumberWords.{digits_of_number}
use Rattle.proof_log.proofs.ReadLines.{or_true, letter_is, line_found}
use Rattle.proof_log.proofs.ReadAgain.{place_numbers, line_again}
use Rattle.proof_log.proofs.CutParts.{is_above, parts_true, joined_parts, joined_above}

digits_above : (digits : List ℕ) → all_ascii_digits digits ≡ true → is_above 32 digits ≡ true
digits_above [] h = refl
digits_above (digit ∷ digits) h =
    let two = parts_true (is_ascii_digit digit) (all_ascii_digits digits) h in
    rw (at two.0, digits_above digits two.1)
  where
    at : is_ascii_digit digit ≡ true → nat_lt 32 digit ≡ true
    at t = grind (arith, nat_tests)

number_above : (o : Option ℕ) → IfSome o IsNumber → is_above 32 (number_word o) ≡ true
unfolding number_word
number_above None h = refl
number_above (Some n) h = digits_above (decimal n) (digits_of_number n h)

bare_above : (letter : ℕ) → is_bare letter ≡ true → nat_lt 32 letter ≡ true
bare_above letter h = elim (or_true (letter == EXPANDED || letter == LEAF) (letter == TAIL_BOUND) h) [
  | inl two ↦ elim (or_true (letter == EXPANDED) (letter == LEAF) two) [
    | inl e ↦ ap (nat_lt 32) (letter_is letter EXPANDED e)
    | inr l ↦ ap (nat_lt 32) (letter_is letter LEAF l)
  ]
  | inr t ↦ ap (nat_lt 32) (letter_is letter TAIL_BOUND t)
]

numbered_above : (letter : ℕ) → has_number letter ≡ true → nat_lt 32 letter ≡ true
numbered_above letter h = elim (or_true (letter == WORK_BOUND || letter == BUDGET || letter == CAPACITY || letter == WORSE || letter == CUTSET) (letter == LEFT) h) [
  | inr l ↦ ap (nat_lt 32) (letter_is letter LEFT l)
  | inl five ↦ elim (or_true (letter == WORK_BOUND || letter == BUDGET || letter == CAPACITY || letter == WORSE) (letter == CUTSET) five) [
    | inr l ↦ ap (nat_lt 32) (letter_is letter CUTSET l)
    | inl four ↦ elim (or_true (letter == WORK_BOUND || letter == BUDGET || letter == CAPACITY) (letter == WORSE) four) [
      | inr l ↦ ap (nat_lt 32) (letter_is letter WORSE l)
      | inl three ↦ elim (or_true (letter == WORK_BOUND || letter == BUDGET) (letter == CAPACITY) three) [
        | inr l ↦ ap (nat_lt 32) (letter_is letter CAPACITY l)
        | inl two ↦ elim (or_true (letter == WORK_BOUND) (letter == BUDGET) two) [
          | inl l ↦ ap (nat_lt 32) (letter_is letter WORK_BOUND l)
          | inr l ↦ ap (nat_lt 32) (letter_is letter BUDGET l)
        ]
      ]
    ]
  ]
]

letter_above : (letter : ℕ) → (has_number letter || is_bare letter) ≡ true → nat_lt 32 letter ≡ true
letter_above letter h = elim (or_true (has_number letter) (is_bare letter) h) [ inl n ↦ numbered_above letter n | inr b ↦ bare_above letter b ]

fate_above : (letter number : ℕ) → (has_number letter || is_bare letter) ≡ true → IsNumber number → list_all (is_above 32) (fate_words letter number) ≡ true
unfolding fate_words
fate_above letter number h small =
    let here = letter_above letter h in
    elim (cases_Bool (has_number letter)) [
      | inl has ↦ rw (has, here, number_above (Some number) small)
      | inr none ↦ rw (none, here)
    ]

log_above : (line : LogWords) → IsLogLine line → list_all (is_above 32) (log_line_words line) ≡ true
unfolding log_line_words
log_above line is =
    let numbers = place_numbers line.job line.mode line.start line.letter is.place in
    rw (number_above line.job numbers.job_, number_above line.mode numbers.mode_, number_above line.start numbers.start_, fate_above line.letter line.number is.letter is.number)

-- the words of a line have no blank and no LF
pub words_above : (line : ReportLine) → IsLine line → list_all (is_above 32) (line_words line) ≡ true
unfolding line_words
words_above Title h = refl
words_above Optimal h = refl
words_above Infeasible h = refl
words_above Limit h = refl
words_above (Duration n) h = rw (number_above n h)
words_above (Lower n) h = rw (number_above n h)
words_above (Job job mode start) h = rw (number_above (Some job) h.0, number_above (Some mode) h.1, number_above (Some start) h.2)
words_above LogYes h = refl
words_above LogNo h = refl
words_above (Log line) h = log_above line h
words_above End h = refl

-- a line has a word
some_word : (line : ReportLine) → (word : List ℕ) × (words : List (List ℕ)) × (line_words line ≡ word ∷ words)
unfolding line_words log_line_words
some_word Title = (codes "psplib-report", codes "1" ∷ [], refl)
some_word Optimal = (codes "verdict", codes "optimal" ∷ [], refl)
some_word Infeasible = (codes "verdict", codes "infeasible" ∷ [], refl)
some_word Limit = (codes "verdict", codes "limit" ∷ [], refl)
some_word (Duration n) = (codes "duration", number_word n ∷ [], refl)
some_word (Lower n) = (codes "lower", number_word n ∷ [], refl)
some_word (Job job mode start) = (codes "job", number_word (Some job) ∷ number_word (Some mode) ∷ number_word (Some start) ∷ [], refl)
some_word LogYes = (codes "log", codes "yes" ∷ [], refl)
some_word LogNo = (codes "log", codes "no" ∷ [], refl)
some_word (Log line) = (number_word line.job, number_word line.mode ∷ number_word line.start ∷ fate_words line.letter line.number, refl)
some_word End = (codes "end", [], refl)

-- the text of a line is cut into its words again
pub words_again : (line : ReportLine) → IsLine line → words_in (line_text line) ≡ line_words line
unfolding words_in line_text
words_again line is =
    let some = some_word line in
    let above = sym (ap (λ (ws : List (List ℕ)). list_all (is_above 32) ws) some.2) ∙ words_above line is in
    ap (λ (ws : List (List ℕ)). words_in (join_with_byte 32 ws)) some.2 ∙ joined_parts 32 some.0 some.1 above ∙ sym some.2

-- the text of a line is read as that line
pub text_again : (line : ReportLine) → IsLine line → line_in (words_in (line_text line)) ≡ Some line
text_again line is = ap line_in (words_again line is) ∙ line_again line is

-- what is read has its line's text
pub text_found : (bytes : List ℕ) (line : ReportLine) → line_in (words_in bytes) ≡ Some line → IsLine line × (bytes ≡ line_text line)
unfolding words_in line_text
text_found bytes line h =
    let found = line_found (words_in bytes) line h in
    (found.0, sym (ap (join_with_byte 32) found.1 ∙ join_with_byte-slice_split 32 bytes))

-- no LF stands in the text of a line
pub text_above : (line : ReportLine) → IsLine line → is_above 10 (line_text line) ≡ true
unfolding line_text
text_above line is = joined_above (line_words line) (words_above line is)
