-- How a line of the text of a bound is read: its bytes are cut at each blank, and the words are judged by their number. What
-- this reads is exactly the lines of `Text`, as the contract of `parse_bound_line` says.
use Rattle.std.specs.Prelude.{ℕ, nat_le, if◌then◌else◌, Option, Some, None, option_map, List, [], ◌∷◌, codes}
use Rattle.std.specs.Str.{bytes_eq}
use Rattle.proof_log.specs.Reading.{◌>>=◌, number_in}
use Rattle.window_refuter.specs.declared.step.BoundStep.TheVariants.{Head, Tail, Disjoint, Work, Empty}
use Rattle.window_refuter.specs.declared.line.BoundLine.{BoundLine}
use Rattle.window_refuter.specs.declared.line.BoundLine.TheVariants.{Title, Bound, Step, End}

-- the number of a job or a resource
unfoldable pub byte_in : List ℕ → Option ℕ
byte_in word = do
  n ← number_in word
  if nat_le n 255 then Some n else None

unfoldable pub single_in : List ℕ → Option BoundLine
single_in word = if bytes_eq word (codes "end") then Some End else None

unfoldable pub title_in : List ℕ → Option BoundLine
title_in word = if bytes_eq word (codes "1") then Some Title else None

unfoldable pub empty_in : List ℕ → Option BoundLine
empty_in job = do
  j ← byte_in job
  Some (Step (Empty j))

unfoldable pub pair_in : List ℕ → List ℕ → Option BoundLine
pair_in key word =
    if bytes_eq key (codes "psplib-bound") then title_in word else
    (if bytes_eq key (codes "bound") then option_map Bound (number_in word) else
    (if bytes_eq key (codes "F") then empty_in word else None))

unfoldable pub head_in : List ℕ → List ℕ → Option BoundLine
head_in first second = do
  i ← byte_in first
  j ← byte_in second
  Some (Step (Head i j))

unfoldable pub tail_in : List ℕ → List ℕ → Option BoundLine
tail_in first second = do
  i ← byte_in first
  j ← byte_in second
  Some (Step (Tail i j))

unfoldable pub triple_in : List ℕ → List ℕ → List ℕ → Option BoundLine
triple_in key first second =
    if bytes_eq key (codes "H") then head_in first second else
    (if bytes_eq key (codes "Q") then tail_in first second else None)

unfoldable pub disjoint_in : List ℕ → List ℕ → List ℕ → Option BoundLine
disjoint_in first second resource = do
  i ← byte_in first
  j ← byte_in second
  k ← byte_in resource
  Some (Step (Disjoint i j k))

unfoldable pub work_in : List ℕ → List ℕ → List ℕ → Option BoundLine
work_in resource from until = do
  k ← byte_in resource
  a ← number_in from
  b ← number_in until
  Some (Step (Work k a b))

unfoldable pub four_in : List ℕ → List ℕ → List ℕ → List ℕ → Option BoundLine
four_in key first second third =
    if bytes_eq key (codes "D") then disjoint_in first second third else
    (if bytes_eq key (codes "E") then work_in first second third else None)

-- a line by its words
unfoldable pub line_in : List (List ℕ) → Option BoundLine
line_in [] = None
line_in (a ∷ []) = single_in a
line_in (a ∷ b ∷ []) = pair_in a b
line_in (a ∷ b ∷ c ∷ []) = triple_in a b c
line_in (a ∷ b ∷ c ∷ d ∷ []) = four_in a b c d
line_in (a ∷ b ∷ c ∷ d ∷ e ∷ more) = None
