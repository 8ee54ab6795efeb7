-- Titles and header lines: what a line begins with, and its value.
use Rattle.std.specs.Prelude.{ℕ, Bool, true, false, ◌&&◌, ◌==◌, List, [], ◌∷◌, Option, Some, None, Result, Ok, if◌then◌else◌}
use Rattle.psplib_lex.specs.Line.{Line, squeezed}
use Rattle.psplib_lex.specs.Number.{word_value}
use Rattle.psplib_layout.specs.declared.fault.Fault.TheVariants.{MissingPart, NotANumber, TextEnds, WordsLeft}
use Rattle.psplib_layout.specs.declared.fault.Refusal.{Refusal}
use Rattle.psplib_layout.specs.declared.rule.Rule.{Rule}
use Rattle.psplib_layout.specs.Reading.{◌>>=◌, judged, refusal}

-- whether the bytes begin with the key
abbrev pub begins_with : List ℕ → List ℕ → Bool
begins_with [] bytes = true
begins_with (k ∷ key) [] = false
begins_with (k ∷ key) (b ∷ bytes) = k == b && begins_with key bytes

-- whether the line without its blanks begins with the key
abbrev pub has_title : List ℕ → Line → Bool
has_title key line = begins_with key (squeezed line)

-- what is left of the key behind the word, where the word doesn't break it
abbrev pub key_left : List ℕ → List ℕ → Option (List ℕ)
key_left [] word = Some []
key_left (k ∷ key) [] = Some (k ∷ key)
key_left (k ∷ key) (b ∷ word) = if k == b then key_left key word else None

-- the bytes behind the first colon
abbrev pub behind_colon : List ℕ → Option (List ℕ)
behind_colon [] = None
behind_colon (b ∷ bytes) = if b == 0x3A then Some bytes else behind_colon bytes

-- the first word of what is left of a word and of the words behind it
abbrev pub first_of : List ℕ → List (List ℕ) → Option (List ℕ)
first_of [] [] = None
first_of [] (word ∷ words) = Some word
first_of (b ∷ bytes) words = Some (b ∷ bytes)

-- the first word behind a colon in this word, or else what later words give
abbrev pub first_behind : Option (List ℕ) → List (List ℕ) → Option (Option (List ℕ)) → Option (Option (List ℕ))
first_behind None words later = later
first_behind (Some bytes) words later = Some (first_of bytes words)

-- the value of a header line: the first word behind its first colon. None: there is no colon; Some None: no word
-- stands behind it
abbrev pub header_value : List (List ℕ) → Option (Option (List ℕ))
header_value [] = None
header_value (word ∷ words) = first_behind (behind_colon word) words (header_value words)

-- the value as a number under a rule
abbrev pub valued : Rule → ℕ → Option (Option (List ℕ)) → Result ℕ Refusal
valued rule line None = refusal MissingPart line
valued rule line (Some None) = refusal NotANumber line
valued rule line (Some (Some word)) = judged rule line (word_value word)

-- a line that has the title
abbrev pub titled : ℕ → List ℕ → List Line → Result (Line × List Line) Refusal
titled end key [] = refusal TextEnds end
titled end key (line ∷ more) = if has_title key line then Ok (line, more) else refusal MissingPart line.number

-- a line that has the title, and whose value is a number under a rule
unfoldable pub keyed : ℕ → List ℕ → Rule → List Line → Result (ℕ × List Line) Refusal
keyed end key rule lines = do
  line ← titled end key lines
  n ← valued rule line.0.number (header_value line.0.words)
  Ok (n, line.1)

-- the lines behind a header line that has a colon
abbrev pub has_colon : ℕ → Option (Option (List ℕ)) → List Line → Result (List Line) Refusal
has_colon line None more = refusal MissingPart line
has_colon line (Some value) more = Ok more

-- a line that has the title and a colon
unfoldable pub colon_line : ℕ → List ℕ → List Line → Result (List Line) Refusal
colon_line end key lines = do
  line ← titled end key lines
  has_colon line.0.number (header_value line.0.words) line.1

-- the lines from the first that has the title on
abbrev pub skipped_to : ℕ → List ℕ → List Line → Result (List Line) Refusal
skipped_to end key [] = refusal TextEnds end
skipped_to end key (line ∷ more) = if has_title key line then Ok (line ∷ more) else skipped_to end key more

-- a line that is unread
abbrev pub any_line : ℕ → List Line → Result (List Line) Refusal
any_line end [] = refusal TextEnds end
any_line end (line ∷ more) = Ok more

-- no line is left
abbrev pub no_more : List Line → Result (List Line) Refusal
no_more [] = Ok []
no_more (line ∷ more) = refusal WordsLeft line.number
