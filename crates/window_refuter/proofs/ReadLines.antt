-- The lines of the text of a bound, read and written.
use Rattle.std.proofs.Common.{◌≡◌, ℕ, ◌≤◌, ◌∙◌, inl, inr, arith, refl, sym, ap, subst, true, List, [], ◌∷◌, length, Some, None, codes, decimal}
use Rattle.std.specs.Prelude.{◌==◌, nat_le, nat_lt, option_map}
use Rattle.std.specs.Char.{is_ascii_digit}
use Rattle.std.specs.List.{list_all, join_with_byte, slice_split}
use Rattle.std.specs.Str.{bytes_eq, all_ascii_digits}
use Rattle.std.proofs.lemmas.Bool.{leb-true, le-leb}
use Rattle.std.proofs.lemmas.Bool.Decides.{nat_tests}
use Rattle.std.proofs.lemmas.List.Splits.{join_with_byte-slice_split, length-slice_split}
use Rattle.proof_log.specs.Line.{IsNumber}
use Rattle.proof_log.specs.Reading.{number_in, words_in}
use Rattle.proof_log.proofs.NumberWords.{chosen, only, mapped, bound, same_word, number_found, number_again, digits_of_number}
use Rattle.proof_log.proofs.CutParts.{is_above, parts_true, joined_parts, joined_above}
use Rattle.window_refuter.specs.declared.step.BoundStep.{BoundStep}
use Rattle.window_refuter.specs.declared.step.BoundStep.TheVariants.{Head, Tail, Disjoint, Work, Empty}
use Rattle.window_refuter.specs.declared.line.BoundLine.{BoundLine}
use Rattle.window_refuter.specs.declared.line.BoundLine.TheVariants.{Title, Bound, Step, End}
use Rattle.window_refuter.specs.Text.{step_words, line_words, line_text, IsByte, HasNumbers, IsLine}
use Rattle.window_refuter.specs.Reading.{byte_in, single_in, title_in, empty_in, pair_in, head_in, tail_in, triple_in, disjoint_in, work_in, four_in, line_in}

-- the line is one that there may be, and has these words
abbrev pub Has : BoundLine → List (List ℕ) → Type 0
Has line words = IsLine line × (line_words line ≡ words)

byte_found : (word : List ℕ) (n : ℕ) → byte_in word ≡ Some n → (decimal n ≡ word) × IsByte n
unfolding byte_in
byte_found word n h =
    let m = bound _ (number_in word) n h in
    let own = only (nat_le m.0 255) m.0 n m.2 in
    let found = number_found word m.0 m.1 in
    let le = leb-true m.0 255 own.0 in
    let same = own.1 in
    (ap decimal (sym same) ∙ found.0, omega arith)

byte_again : (n : ℕ) → IsByte n → byte_in (decimal n) ≡ Some n
unfolding byte_in
byte_again n small = rw (number_again n (omega arith), le-leb n 255 small)

single_found : (word : List ℕ) (line : BoundLine) → single_in word ≡ Some line → Has line (word ∷ [])
unfolding single_in line_words
single_found word line h =
    let e = only (bytes_eq word (codes "end")) End line h in
    subst (λ (l : BoundLine). Has l (word ∷ [])) e.1 (tt, ap (λ (w : List ℕ). w ∷ []) (sym (same_word word (codes "end") e.0)))

title_found : (key word : List ℕ) (line : BoundLine) → bytes_eq key (codes "psplib-bound") ≡ true → title_in word ≡ Some line → Has line (key ∷ word ∷ [])
unfolding title_in line_words
title_found key word line k h =
    let e = only (bytes_eq word (codes "1")) Title line h in
    subst (λ (l : BoundLine). Has l (key ∷ word ∷ [])) e.1
    (tt, ap (λ (w : List ℕ). w ∷ codes "1" ∷ []) (sym (same_word key (codes "psplib-bound") k)) ∙ ap (λ (w : List ℕ). key ∷ w ∷ []) (sym (same_word word (codes "1") e.0)))

bound_found : (key word : List ℕ) (line : BoundLine) → bytes_eq key (codes "bound") ≡ true → option_map Bound (number_in word) ≡ Some line → Has line (key ∷ word ∷ [])
unfolding line_words
bound_found key word line k h =
    let m = mapped Bound (number_in word) line h in
    let n = number_found word m.0 m.1 in
    subst (λ (l : BoundLine). Has l (key ∷ word ∷ [])) m.2
    (n.1, ap (λ (w : List ℕ). w ∷ decimal m.0 ∷ []) (sym (same_word key (codes "bound") k)) ∙ ap (λ (w : List ℕ). key ∷ w ∷ []) n.0)

empty_found : (key job : List ℕ) (line : BoundLine) → bytes_eq key (codes "F") ≡ true → empty_in job ≡ Some line → Has line (key ∷ job ∷ [])
unfolding empty_in line_words step_words
empty_found key job line k h =
    let j = bound _ (byte_in job) line h in
    let n = byte_found job j.0 j.1 in
    let same : Step (Empty j.0) ≡ line = cc j.2 in
    subst (λ (l : BoundLine). Has l (key ∷ job ∷ [])) same
    (n.1, ap (λ (w : List ℕ). w ∷ decimal j.0 ∷ []) (sym (same_word key (codes "F") k)) ∙ ap (λ (w : List ℕ). key ∷ w ∷ []) n.0)

pair_found : (key word : List ℕ) (line : BoundLine) → pair_in key word ≡ Some line → Has line (key ∷ word ∷ [])
unfolding pair_in
pair_found key word line h = elim (chosen (bytes_eq key (codes "psplib-bound")) (title_in word) _ (Some line) h) [
  | inl t ↦ title_found key word line t.0 t.1
  | inr f ↦ elim (chosen (bytes_eq key (codes "bound")) (option_map Bound (number_in word)) _ (Some line) f.1) [
    | inl t ↦ bound_found key word line t.0 t.1
    | inr g ↦ elim (chosen (bytes_eq key (codes "F")) (empty_in word) None (Some line) g.1) [
      | inl t ↦ empty_found key word line t.0 t.1
      | inr none ↦ absurd (cc none.1)
    ]
  ]
]

head_found : (key first second : List ℕ) (line : BoundLine) → bytes_eq key (codes "H") ≡ true → head_in first second ≡ Some line → Has line (key ∷ first ∷ second ∷ [])
unfolding head_in line_words step_words
head_found key first second line k h =
    let i = bound _ (byte_in first) line h in
    let j = bound _ (byte_in second) line i.2 in
    let one = byte_found first i.0 i.1 in
    let two = byte_found second j.0 j.1 in
    let same : Step (Head i.0 j.0) ≡ line = cc j.2 in
    let word = same_word key (codes "H") k in
    subst (λ (l : BoundLine). Has l (key ∷ first ∷ second ∷ [])) same ((one.1, two.1), cc (one.0, two.0, word))

tail_found : (key first second : List ℕ) (line : BoundLine) → bytes_eq key (codes "Q") ≡ true → tail_in first second ≡ Some line → Has line (key ∷ first ∷ second ∷ [])
unfolding tail_in line_words step_words
tail_found key first second line k h =
    let i = bound _ (byte_in first) line h in
    let j = bound _ (byte_in second) line i.2 in
    let one = byte_found first i.0 i.1 in
    let two = byte_found second j.0 j.1 in
    let same : Step (Tail i.0 j.0) ≡ line = cc j.2 in
    let word = same_word key (codes "Q") k in
    subst (λ (l : BoundLine). Has l (key ∷ first ∷ second ∷ [])) same ((one.1, two.1), cc (one.0, two.0, word))

triple_found : (key first second : List ℕ) (line : BoundLine) → triple_in key first second ≡ Some line → Has line (key ∷ first ∷ second ∷ [])
unfolding triple_in
triple_found key first second line h = elim (chosen (bytes_eq key (codes "H")) (head_in first second) _ (Some line) h) [
  | inl t ↦ head_found key first second line t.0 t.1
  | inr f ↦ elim (chosen (bytes_eq key (codes "Q")) (tail_in first second) None (Some line) f.1) [
    | inl t ↦ tail_found key first second line t.0 t.1
    | inr none ↦ absurd (cc none.1)
  ]
]

disjoint_found : (key first second third : List ℕ) (line : BoundLine) → bytes_eq key (codes "D") ≡ true → disjoint_in first second third ≡ Some line → Has line (key ∷ first ∷ second ∷ third ∷ [])
unfolding disjoint_in line_words step_words
disjoint_found key first second third line k h =
    let i = bound _ (byte_in first) line h in
    let j = bound _ (byte_in second) line i.2 in
    let r = bound _ (byte_in third) line j.2 in
    let one = byte_found first i.0 i.1 in
    let two = byte_found second j.0 j.1 in
    let three = byte_found third r.0 r.1 in
    let same : Step (Disjoint i.0 j.0 r.0) ≡ line = cc r.2 in
    let word = same_word key (codes "D") k in
    subst (λ (l : BoundLine). Has l (key ∷ first ∷ second ∷ third ∷ [])) same ((one.1, two.1, three.1), cc (one.0, two.0, three.0, word))

work_found : (key first second third : List ℕ) (line : BoundLine) → bytes_eq key (codes "E") ≡ true → work_in first second third ≡ Some line → Has line (key ∷ first ∷ second ∷ third ∷ [])
unfolding work_in line_words step_words
work_found key first second third line k h =
    let i = bound _ (byte_in first) line h in
    let j = bound _ (number_in second) line i.2 in
    let r = bound _ (number_in third) line j.2 in
    let one = byte_found first i.0 i.1 in
    let two = number_found second j.0 j.1 in
    let three = number_found third r.0 r.1 in
    let same : Step (Work i.0 j.0 r.0) ≡ line = cc r.2 in
    let word = same_word key (codes "E") k in
    subst (λ (l : BoundLine). Has l (key ∷ first ∷ second ∷ third ∷ [])) same ((one.1, two.1, three.1), cc (one.0, two.0, three.0, word))

four_found : (key first second third : List ℕ) (line : BoundLine) → four_in key first second third ≡ Some line → Has line (key ∷ first ∷ second ∷ third ∷ [])
unfolding four_in
four_found key first second third line h = elim (chosen (bytes_eq key (codes "D")) (disjoint_in first second third) _ (Some line) h) [
  | inl t ↦ disjoint_found key first second third line t.0 t.1
  | inr f ↦ elim (chosen (bytes_eq key (codes "E")) (work_in first second third) None (Some line) f.1) [
    | inl t ↦ work_found key first second third line t.0 t.1
    | inr none ↦ absurd (cc none.1)
  ]
]

-- what is read is a line with these words
line_found : (words : List (List ℕ)) (line : BoundLine) → line_in words ≡ Some line → Has line words
unfolding line_in
line_found [] line h = absurd (cc)
line_found (a ∷ []) line h = single_found a line h
line_found (a ∷ b ∷ []) line h = pair_found a b line h
line_found (a ∷ b ∷ c ∷ []) line h = triple_found a b c line h
line_found (a ∷ b ∷ c ∷ d ∷ []) line h = four_found a b c d line h
line_found (a ∷ b ∷ c ∷ d ∷ e ∷ more) line h = absurd (cc)

-- the words of a line are read as that line
step_again : (step : BoundStep) → HasNumbers step → line_in (step_words step) ≡ Some (Step step)
unfolding line_in step_words pair_in triple_in four_in empty_in head_in tail_in disjoint_in work_in
step_again (Head i j) h = rw (byte_again i h.0, byte_again j h.1)
step_again (Tail i j) h = rw (byte_again i h.0, byte_again j h.1)
step_again (Disjoint i j k) h = rw (byte_again i h.0, byte_again j h.1, byte_again k h.2)
step_again (Work k a b) h = rw (byte_again k h.0, number_again a h.1, number_again b h.2)
step_again (Empty j) h = rw (byte_again j h)

line_again : (line : BoundLine) → IsLine line → line_in (line_words line) ≡ Some line
unfolding line_in line_words single_in pair_in title_in
line_again Title h = refl
line_again (Bound b) h = rw (number_again b h)
line_again (Step step) h = step_again step h
line_again End h = refl

-- The text of a line is cut into its words again.
digits_above : (digits : List ℕ) → all_ascii_digits digits ≡ true → is_above 32 digits ≡ true
digits_above [] h = refl
digits_above (digit ∷ digits) h =
    let two = parts_true (is_ascii_digit digit) (all_ascii_digits digits) h in
    rw (at two.0, digits_above digits two.1)
  where
    at : is_ascii_digit digit ≡ true → nat_lt 32 digit ≡ true
    at t = grind (arith, nat_tests)

number_above : (n : ℕ) → IsNumber n → is_above 32 (decimal n) ≡ true
number_above n h = digits_above (decimal n) (digits_of_number n h)

byte_above : (n : ℕ) → IsByte n → is_above 32 (decimal n) ≡ true
byte_above n h = number_above n (omega arith)

step_above : (step : BoundStep) → HasNumbers step → list_all (is_above 32) (step_words step) ≡ true
unfolding step_words
step_above (Head i j) h = rw (byte_above i h.0, byte_above j h.1)
step_above (Tail i j) h = rw (byte_above i h.0, byte_above j h.1)
step_above (Disjoint i j k) h = rw (byte_above i h.0, byte_above j h.1, byte_above k h.2)
step_above (Work k a b) h = rw (byte_above k h.0, number_above a h.1, number_above b h.2)
step_above (Empty j) h = rw (byte_above j h)

words_above : (line : BoundLine) → IsLine line → list_all (is_above 32) (line_words line) ≡ true
unfolding line_words
words_above Title h = refl
words_above (Bound b) h = rw (number_above b h)
words_above (Step step) h = step_above step h
words_above End h = refl

-- a line has a word
some_word : (line : BoundLine) → (word : List ℕ) × (words : List (List ℕ)) × (line_words line ≡ word ∷ words)
unfolding line_words step_words
some_word Title = (codes "psplib-bound", codes "1" ∷ [], refl)
some_word (Bound b) = (codes "bound", decimal b ∷ [], refl)
some_word (Step (Head i j)) = (codes "H", decimal i ∷ decimal j ∷ [], refl)
some_word (Step (Tail i j)) = (codes "Q", decimal i ∷ decimal j ∷ [], refl)
some_word (Step (Disjoint i j k)) = (codes "D", decimal i ∷ decimal j ∷ decimal k ∷ [], refl)
some_word (Step (Work k a b)) = (codes "E", decimal k ∷ decimal a ∷ decimal b ∷ [], refl)
some_word (Step (Empty j)) = (codes "F", decimal j ∷ [], refl)
some_word End = (codes "end", [], refl)

words_again : (line : BoundLine) → IsLine line → words_in (line_text line) ≡ line_words line
unfolding words_in line_text
words_again line is =
    let some = some_word line in
    let above = sym (ap (λ (ws : List (List ℕ)). list_all (is_above 32) ws) some.2) ∙ words_above line is in
    ap (λ (ws : List (List ℕ)). words_in (join_with_byte 32 ws)) some.2 ∙ joined_parts 32 some.0 some.1 above ∙ sym some.2

-- the text of a line is read as that line
pub text_again : (line : BoundLine) → IsLine line → line_in (words_in (line_text line)) ≡ Some line
text_again line is = ap line_in (words_again line is) ∙ line_again line is

-- what is read has its line's text
pub text_found : (bytes : List ℕ) (line : BoundLine) → line_in (words_in bytes) ≡ Some line → IsLine line × (bytes ≡ line_text line)
unfolding words_in line_text
text_found bytes line h =
    let found = line_found (words_in bytes) line h in
    (found.0, sym (ap (join_with_byte 32) found.1 ∙ join_with_byte-slice_split 32 bytes))

-- no LF stands in the text of a line
pub text_above : (line : BoundLine) → IsLine line → is_above 10 (line_text line) ≡ true
unfolding line_text
text_above line is = joined_above (line_words line) (words_above line is)

-- no line has more than four words
pub no_fifth : (a b c d bytes : List ℕ) → line_in (a ∷ b ∷ c ∷ d ∷ words_in bytes) ≡ None
unfolding line_in words_in
no_fifth a b c d bytes = at (slice_split (λ byte. byte == 0x20) bytes) (omega (arith, length-slice_split (λ byte. byte == 0x20) bytes))
  where
    at : (words : List (List ℕ)) → 1 ≤ length words → line_in (a ∷ b ∷ c ∷ d ∷ words) ≡ None
    at [] h = absurd (omega arith)
    at (word ∷ more) h = refl
