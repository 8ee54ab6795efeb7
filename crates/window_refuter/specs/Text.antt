-- The lines of the text of a bound, each by its words. A number is decimal, without leading zeros, and has at most nine
-- digits; that of a job or a resource is at most 255.
use Rattle.std.specs.Prelude.{ℕ, ◌≤◌, List, [], ◌∷◌, codes, decimal}
use Rattle.std.specs.List.{join_with_byte}
use Rattle.proof_log.specs.Line.{IsNumber}
use Rattle.window_refuter.specs.declared.step.BoundStep.{BoundStep}
use Rattle.window_refuter.specs.declared.step.BoundStep.TheVariants.{Head, Tail, Disjoint, Work, Empty}
use Rattle.window_refuter.specs.declared.line.BoundLine.{BoundLine}
use Rattle.window_refuter.specs.declared.line.BoundLine.TheVariants.{Title, Bound, Step, End}

-- the letter of a step, and its numbers
unfoldable pub step_words : BoundStep → List (List ℕ)
step_words (Head i j) = codes "H" ∷ decimal i ∷ decimal j ∷ []
step_words (Tail i j) = codes "Q" ∷ decimal i ∷ decimal j ∷ []
step_words (Disjoint i j k) = codes "D" ∷ decimal i ∷ decimal j ∷ decimal k ∷ []
step_words (Work k a b) = codes "E" ∷ decimal k ∷ decimal a ∷ decimal b ∷ []
step_words (Empty j) = codes "F" ∷ decimal j ∷ []

unfoldable pub line_words : BoundLine → List (List ℕ)
line_words Title = codes "psplib-bound" ∷ codes "1" ∷ []
line_words (Bound b) = codes "bound" ∷ decimal b ∷ []
line_words (Step step) = step_words step
line_words End = codes "end" ∷ []

-- the bytes of a line: its words, with one blank between two
unfoldable pub line_text : BoundLine → List ℕ
line_text line = join_with_byte 0x20 (line_words line)

-- Which lines there are.

-- the number of a job or a resource
abbrev pub IsByte : ℕ → Type 0
IsByte n = n ≤ 255

abbrev pub HasNumbers : BoundStep → Type 0
HasNumbers (Head i j) = IsByte i × IsByte j
HasNumbers (Tail i j) = IsByte i × IsByte j
HasNumbers (Disjoint i j k) = IsByte i × IsByte j × IsByte k
HasNumbers (Work k a b) = IsByte k × IsNumber a × IsNumber b
HasNumbers (Empty j) = IsByte j

-- the lines that the text of a bound may have
abbrev pub IsLine : BoundLine → Type 0
IsLine (Bound b) = IsNumber b
IsLine (Step step) = HasNumbers step
IsLine _ = Unit {0}
