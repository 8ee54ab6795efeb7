-- The lines of a text that comes in pieces.
use Rattle.std.specs.Prelude.{ℕ, ◌+◌, ◌-◌, ◌==◌, min, Bool, nat_lt, if◌then◌else◌, List, [], ◌∷◌, ◌++◌, length, take}
use Rattle.std.specs.List.{position_or_len}
use Rattle.proof_log.specs.declared.line_reader.TheConstants.{LONGEST_LINE}
use Rattle.proof_log.specs.declared.line_reader.LineStep.{LineStep}
use Rattle.proof_log.specs.declared.line_reader.LineStep.TheVariants.{More, Line, TooLong}

-- LF
abbrev pub is_line_end : ℕ → Bool
is_line_end byte = byte == 0x0A

-- how many bytes stand before the first LF, or all where there is none
unfoldable pub line_len : List ℕ → ℕ
line_len bytes = position_or_len is_line_end bytes

-- a reader: the bytes of a line that it holds, and what it last answered
pub record ReaderState : Type 0 where
  pub line : List ℕ
  pub last : LineStep

-- what a reader makes of a piece: how many bytes it takes, what it answers, and the bytes of a line that it then holds
pub record Fed : Type 0 where
  pub taken : ℕ
  pub step : LineStep
  pub line : List ℕ

-- after these bytes of a line: it ends at the first LF, or goes on; a byte past the longest line isn't taken
unfoldable pub fed_line : List ℕ → List ℕ → Fed
fed_line line piece =
    if nat_lt LONGEST_LINE (length line + line_len piece)
    then record { taken = LONGEST_LINE - length line; step = TooLong; line = line ++ take (LONGEST_LINE - length line) piece }
    else record { taken = min (line_len piece + 1) (length piece); step = if nat_lt (line_len piece) (length piece) then Line else More; line = line ++ take (line_len piece) piece }

-- a line that has ended is followed by a new one, and after one that is too long nothing is taken
abbrev pub fed_after : LineStep → List ℕ → List ℕ → Fed
fed_after More line piece = fed_line line piece
fed_after Line line piece = fed_line [] piece
fed_after TooLong line piece = record { taken = 0; step = TooLong; line = line }

abbrev pub fed : ReaderState → List ℕ → Fed
fed reader piece = fed_after reader.last reader.line piece

abbrev pub after_piece : ReaderState → List ℕ → ReaderState
after_piece reader piece = record { line = (fed reader piece).line; last = (fed reader piece).step }

-- The lines of a text, however it was cut into pieces.

-- the lines that an LF ends, up to the first that is too long, where these bytes of a line came before
unfoldable pub lines_after : List ℕ → List ℕ → List (List ℕ)
lines_after line [] = []
lines_after line (byte ∷ bytes) =
    if is_line_end byte then line ∷ lines_after [] bytes else
    (if length line == LONGEST_LINE then [] else lines_after (line ++ byte ∷ []) bytes)

abbrev pub lines_in : List ℕ → List (List ℕ)
lines_in bytes = lines_after [] bytes

abbrev pub left_after : LineStep → List ℕ → List ℕ → List (List ℕ)
left_after More line bytes = lines_after line bytes
left_after Line line bytes = lines_after [] bytes
left_after TooLong line bytes = []

-- the lines that a reader still finds in the bytes that come
abbrev pub lines_left : ReaderState → List ℕ → List (List ℕ)
lines_left reader bytes = left_after reader.last reader.line bytes
