-- The text of a bound: a title, the bound, the steps that show it, and a last line.
use Rattle.std.specs.Prelude.{ℕ, List, [], ◌∷◌, ◌++◌, map}
use Rattle.window_refuter.specs.declared.step.BoundStep.{BoundStep}
use Rattle.window_refuter.specs.declared.line.BoundLine.{BoundLine}
use Rattle.window_refuter.specs.declared.line.BoundLine.TheVariants.{Title, Bound, Step, End}
use Rattle.window_refuter.specs.Text.{line_text}

-- the bytes of lines, with an LF behind each
abbrev pub text_of : List BoundLine → List ℕ
text_of [] = []
text_of (line ∷ lines) = line_text line ++ 0x0A ∷ text_of lines

-- the lines of a bound and its steps
abbrev pub bound_lines : ℕ → List BoundStep → List BoundLine
bound_lines b steps = Title ∷ Bound b ∷ (map Step steps ++ End ∷ [])
