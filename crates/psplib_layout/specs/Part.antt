-- Parts of a text: rows of numbers that fill whole lines.
use Rattle.std.specs.Prelude.{◌≡◌, ℕ, ◌≤◌, List, ◌++◌, length, map, Some, Result, Ok}
use Rattle.std.specs.List.{flat_map, AllByRecursion}
use Rattle.psplib_lex.specs.Line.{Line}
use Rattle.psplib_lex.specs.Number.{word_value}
use Rattle.psplib_layout.specs.declared.fault.Refusal.{Refusal}
use Rattle.psplib_layout.specs.Wanted.{Wanted}
use Rattle.psplib_layout.specs.Reading.{◌>>=◌, read_wanted, line_end}

-- all words of lines, in their order
abbrev pub words_in : List Line → List (List ℕ)
words_in lines = flat_map (λ line. line.words) lines

-- each word stands for its number
abbrev pub Spells : List (List ℕ) → List ℕ → Type 0
Spells words numbers = map word_value words ≡ map Some numbers

-- the lines begin with a part that spells these numbers, and go on with those
pub record HasPart (numbers : List ℕ) (lines rest : List Line) : Type 0 where
  pub part : List Line
  pub lines_are : lines ≡ part ++ rest
  pub spelled : Spells (words_in part) numbers

-- the numbers that are wanted, taken across lines, and no further word on the line of the last
unfoldable pub part_in : {A : Type 0} → ℕ → Wanted A → List Line → Result (A × List Line) Refusal
part_in end wanted lines = do
  x ← read_wanted end wanted lines
  rest ← line_end x.1
  Ok (x.0, rest)

-- each of these lines has a word
abbrev pub HaveWords : List Line → Type 0
HaveWords lines = AllByRecursion (λ line. 1 ≤ length line.words) lines
