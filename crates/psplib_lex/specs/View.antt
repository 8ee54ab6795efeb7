-- What the places that a lexer keeps stand for in a text.
use Rattle.std.specs.Prelude.{ℕ, ◌≤◌, nat_lt, List, [], ◌∷◌, map, All, if◌then◌else◌}
use Rattle.std.specs.List.{slice_range}
use Rattle.psplib_lex.specs.Line.{Line}
use Rattle.psplib_lex.specs.declared.words.Span.{Span}
use Rattle.psplib_lex.specs.declared.words.KeptLine.{KeptLine}

-- the bytes of a word
abbrev pub word_seen : List ℕ → Span → List ℕ
word_seen text word = slice_range text word.begin word.end

-- a line with the words between two places among all words
abbrev pub line_seen : List ℕ → List Span → KeptLine → Line
line_seen text words line = record { number = line.number; words = map (word_seen text) (slice_range words line.words.begin line.words.end) }

abbrev pub lines_seen : List ℕ → List Span → List KeptLine → List Line
lines_seen text words lines = map (line_seen text words) lines

-- the part lies within so many items
pub record IsWithin (n : ℕ) (part : Span) : Type 0 where
  pub ordered : part.begin ≤ part.end
  pub within : part.end ≤ n

abbrev pub AreWordsWithin : ℕ → List Span → Type 0
AreWordsWithin n words = All (IsWithin n) words

abbrev pub AreLinesWithin : ℕ → List KeptLine → Type 0
AreLinesWithin n lines = All (λ line. IsWithin n line.words) lines

-- the word between two places, where there is a byte between them
abbrev pub word_between : ℕ → ℕ → List Span
word_between begin end = if nat_lt begin end then record { begin = begin; end = end } ∷ [] else []
