-- The lines and the words of a text. A text is a list of bytes.
use Rattle.std.specs.Prelude.{ℕ, ◌+◌, ◌-◌, Bool, true, false, not, ◌||◌, ◌==◌, List, [], ◌∷◌, length, take, filter, slice_index, slice_index_or, if◌then◌else◌}
use Rattle.std.specs.List.{slice_split, list_all, concat}

-- a line: its number in the text, from 1, and its words
pub record Line : Type 0 where
  pub number : ℕ
  pub words : List (List ℕ)

-- LF
abbrev pub is_line_end : ℕ → Bool
is_line_end byte = byte == 0x0A

-- space, tab, carriage return, vertical tab, form feed
abbrev pub is_blank : ℕ → Bool
is_blank byte = byte == 0x20 || byte == 0x09 || byte == 0x0D || byte == 0x0B || byte == 0x0C

abbrev pub has_bytes : List ℕ → Bool
has_bytes [] = false
has_bytes (byte ∷ bytes) = true

-- the longest runs of bytes that aren't blanks
unfoldable pub words_of : List ℕ → List (List ℕ)
words_of bytes = filter has_bytes (slice_split is_blank bytes)

-- the squeezed line: its bytes without the blanks
abbrev pub squeezed : Line → List ℕ
squeezed line = concat line.words

-- whether each of the bytes is this one
abbrev pub consists_of : ℕ → List ℕ → Bool
consists_of byte bytes = list_all (λ b. b == byte) bytes

-- whether a line has no bytes but blanks and stars, or none but blanks and hyphens; a line of blanks alone has both
abbrev pub is_rule : Line → Bool
is_rule line = consists_of 0x2A (squeezed line) || consists_of 0x2D (squeezed line)

abbrev pub is_kept : Line → Bool
is_kept line = not (is_rule line)

abbrev pub line_from : ℕ → List ℕ → Line
line_from number bytes = record { number = number; words = words_of bytes }

-- the lines with these bytes, numbered from n on
abbrev pub numbered : ℕ → List (List ℕ) → List Line
numbered n [] = []
numbered n (bytes ∷ more) = line_from n bytes ∷ numbered (n + 1) more

-- the text without the byte 0x1A at its very end, where it has one
abbrev pub without_mark : List ℕ → List ℕ
without_mark text = if slice_index text (length text - 1) == 0x1A then take (length text - 1) text else text

-- all lines of a text: it is cut at each LF
abbrev pub all_lines : List ℕ → List Line
all_lines text = numbered 1 (slice_split is_line_end text)

-- the kept lines of a text: those that aren't rules, in their order
unfoldable pub lines_of : List ℕ → List Line
lines_of text = filter is_kept (all_lines (without_mark text))

abbrev pub no_line : Line
no_line = record { number = 0; words = [] }

-- the line at an index, from 0
abbrev pub line_at : List Line → ℕ → Line
line_at lines i = slice_index_or lines i no_line

-- the word at an index, from 0
abbrev pub word_at : Line → ℕ → List ℕ
word_at line i = slice_index_or line.words i []
