-- Reading from left to right, up to the first fault. What is left to read is a list of lines; of the first line some
-- words may be taken already.
use Rattle.std.specs.Prelude.{ℕ, List, [], ◌∷◌, Option, Some, None, Result, Ok, Err, nat_lt, if◌then◌else◌}
use Rattle.psplib_lex.specs.Line.{Line}
use Rattle.psplib_lex.specs.Number.{word_value}
use Rattle.psplib_layout.specs.declared.fault.Fault.{Fault}
use Rattle.psplib_layout.specs.declared.fault.Fault.TheVariants.{NotANumber, TextEnds, WordsLeft}
use Rattle.psplib_layout.specs.declared.fault.Refusal.{Refusal}
use Rattle.psplib_layout.specs.declared.rule.Rule.{Rule}
use Rattle.psplib_layout.specs.Rule.{lesser}
use Rattle.psplib_layout.specs.Wanted.{Wanted, give, number}

-- a step, and what follows where it isn't refused
infixl 10 ◌>>=◌
abbrev pub ◌>>=◌ : {A B : Type 0} → Result A Refusal → (A → Result B Refusal) → Result B Refusal
(Ok x) >>= more = more x
(Err f) >>= more = Err f

-- the refusal with this fault on this line
abbrev pub refusal : {A : Type 0} → Fault → ℕ → Result A Refusal
refusal fault line = Err (record { fault = fault; line = line })

-- a word, with the number of its line
pub record Word : Type 0 where
  pub line : ℕ
  pub bytes : List ℕ

-- the first of these words, or else what later lines give
abbrev pub first_word : ℕ → List (List ℕ) → List Line → Result (Word × List Line) Refusal → Result (Word × List Line) Refusal
first_word line [] more later = later
first_word line (word ∷ words) more later = Ok (record { line = line; bytes = word }, record { number = line; words = words } ∷ more)

-- the next word, on this line or a later one; the text ends on line `end`
abbrev pub next_word : ℕ → List Line → Result (Word × List Line) Refusal
next_word end [] = refusal TextEnds end
next_word end (line ∷ more) = first_word line.number line.words more (next_word end more)

-- what a word on this line stands for, judged by a rule
abbrev pub judged : Rule → ℕ → Option ℕ → Result ℕ Refusal
judged rule line None = refusal NotANumber line
judged rule line (Some n) = if nat_lt n rule.least then refusal (lesser rule n) line else if nat_lt rule.most n then refusal rule.above line else Ok n

-- the next word as a number under a rule
unfoldable pub number_in : ℕ → Rule → List Line → Result (ℕ × List Line) Refusal
number_in end rule lines = do
  word ← next_word end lines
  n ← judged rule word.0.line (word_value word.0.bytes)
  Ok (n, word.1)

-- the numbers that are wanted, taken across lines
abbrev pub read_wanted : {A : Type 0} → ℕ → Wanted A → List Line → Result (A × List Line) Refusal
read_wanted end (give x) lines = Ok (x, lines)
read_wanted end (number rule next) lines = number_in end rule lines >>= λ x. read_wanted end (next x.0) x.1

-- the lines behind one that has no word left
abbrev pub no_word : ℕ → List (List ℕ) → List Line → Result (List Line) Refusal
no_word line [] more = Ok more
no_word line (word ∷ words) more = refusal WordsLeft line

-- no further word on the line of the last one
abbrev pub line_end : List Line → Result (List Line) Refusal
line_end [] = Ok []
line_end (line ∷ more) = no_word line.number line.words more
