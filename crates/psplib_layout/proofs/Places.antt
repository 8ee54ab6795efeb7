-- A place in the lines, and what is left from there on.
use Rattle.std.proofs.Common.{◌≡◌, ℕ, ◌+◌, ◌<◌, ◌≤◌, List, [], ◌∷◌, length, get_or, drop, Ok, Err, refl, add-one}
use Rattle.std.proofs.Math.Seq.{drop-cons}
use Rattle.std.proofs.lemmas.List.{drop_all}
use Rattle.psplib_lex.specs.Line.{Line, line_at, word_at, no_line}
use Rattle.psplib_layout.specs.declared.fault.Fault.TheVariants.{TextEnds, WordsLeft}
use Rattle.psplib_layout.specs.Title.{any_line}
use Rattle.psplib_layout.specs.Place.{past}
use Rattle.psplib_layout.specs.Reading.{next_word, line_end}

-- the lines from one on are that one and those behind it
pub lines_from : (lines : List Line) (i : ℕ) → i < length lines → drop i lines ≡ line_at lines i ∷ drop (i + 1) lines
lines_from lines i h = rw add-one (drop-cons lines i no_line h)

pub words_from : (words : List (List ℕ)) (i : ℕ) → i < length words → drop i words ≡ get_or words i [] ∷ drop (i + 1) words
words_from words i h = rw add-one (drop-cons words i [] h)

pub past-zero : (lines : List Line) → past 0 lines ≡ lines
past-zero [] = refl
past-zero (l ∷ ls) = refl

-- a word of the line is left
pub next_here : (end : ℕ) (lines : List Line) (line word : ℕ) → line < length lines → word < length (line_at lines line).words
    → next_word end (past word (drop line lines)) ≡ Ok (record { line = (line_at lines line).number; bytes = word_at (line_at lines line) word }, past (word + 1) (drop line lines))
next_here end lines line word h k =
    rw (lines_from lines line h, words_from (line_at lines line).words word k) refl

-- no word of it is left
pub next_later : (end : ℕ) (lines : List Line) (line word : ℕ) → line < length lines → length (line_at lines line).words ≤ word
    → next_word end (past word (drop line lines)) ≡ next_word end (past 0 (drop (line + 1) lines))
next_later end lines line word h k =
    rw (lines_from lines line h, drop_all word (line_at lines line).words k, past-zero) refl

-- no line is left
pub next_none : (end : ℕ) (lines : List Line) (line word : ℕ) → length lines ≤ line → next_word end (past word (drop line lines)) ≡ Err (record { fault = TextEnds; line = end })
next_none end lines line word h = rw (drop_all line lines h) refl

pub left_some : (lines : List Line) (line word : ℕ) → line < length lines → word < length (line_at lines line).words
    → line_end (past word (drop line lines)) ≡ Err (record { fault = WordsLeft; line = (line_at lines line).number })
left_some lines line word h k = rw (lines_from lines line h, words_from (line_at lines line).words word k) refl

pub any_line_here : (end : ℕ) (lines : List Line) (line word : ℕ) → line < length lines → any_line end (past word (drop line lines)) ≡ Ok (past 0 (drop (line + 1) lines))
any_line_here end lines line word h = rw (lines_from lines line h, past-zero) refl
