-- The bytes of lines.
use Rattle.std.proofs.Common.{◌≡◌, ℕ, suc, ◌+◌, ◌≤◌, ◌∙◌, arith, refl, sym, ap, List, [], ◌∷◌, ◌++◌, length, length-append, append_assoc, Some, decimal}
use Rattle.std.specs.List.{AllByRecursion, join_with_byte}
use Rattle.std.proofs.lemmas.Fmt.{length-decimal-le}
use Rattle.proof_log.specs.Line.{IsNumber}
use Rattle.proof_log.specs.Reading.{words_in}
use Rattle.window_refuter.specs.declared.step.BoundStep.{BoundStep}
use Rattle.window_refuter.specs.declared.step.BoundStep.TheVariants.{Head, Tail, Disjoint, Work, Empty}
use Rattle.window_refuter.specs.declared.line.BoundLine.{BoundLine}
use Rattle.window_refuter.specs.declared.line.BoundLine.TheVariants.{Title, Bound, Step, End}
use Rattle.window_refuter.specs.Text.{step_words, line_words, line_text, IsByte, HasNumbers, IsLine}
use Rattle.window_refuter.specs.Reading.{line_in}
use Rattle.window_refuter.proofs.ReadLines.{text_again, text_above}
use Rattle.bound_checker.specs.Text.{text_of}
use Rattle.bound_checker.specs.Checker.{HasNoEnd}
use Rattle.bound_checker.proofs.LineEnds.{above-no_end, one_cut}

-- the letters of words, and one more for each
abbrev width : List (List ℕ) → ℕ
width [] = 0
width (word ∷ words) = suc (length word + width words)

joined-width : (words : List (List ℕ)) → length (join_with_byte 32 words) ≤ width words
joined-width [] = omega arith
joined-width (word ∷ []) = omega arith
joined-width (word ∷ next ∷ more) =
    let rest = joined-width (next ∷ more) in
    let size = length-append word (32 ∷ join_with_byte 32 (next ∷ more)) in
    omega arith

number-short : (n : ℕ) → IsNumber n → length (decimal n) ≤ 9
number-short n small = length-decimal-le 9 n (omega arith) (omega arith) (omega arith)

byte-short : (n : ℕ) → IsByte n → length (decimal n) ≤ 9
byte-short n small = number-short n (omega arith)

step-width : (step : BoundStep) → HasNumbers step → width (step_words step) ≤ 64
unfolding step_words
step-width (Head i j) h = let a = byte-short i h.0 in let b = byte-short j h.1 in omega arith
step-width (Tail i j) h = let a = byte-short i h.0 in let b = byte-short j h.1 in omega arith
step-width (Disjoint i j k) h = let a = byte-short i h.0 in let b = byte-short j h.1 in let c = byte-short k h.2 in omega arith
step-width (Work k a b) h = let x = byte-short k h.0 in let y = number-short a h.1 in let z = number-short b h.2 in omega arith
step-width (Empty j) h = let a = byte-short j h in omega arith

line-width : (line : BoundLine) → IsLine line → width (line_words line) ≤ 64
unfolding line_words
line-width Title h = omega arith
line-width (Bound b) h = let a = number-short b h in omega arith
line-width (Step step) h = step-width step h
line-width End h = omega arith

-- a line is no longer than a line may be
pub text_short : (line : BoundLine) → IsLine line → length (line_text line) ≤ 64
unfolding line_text
text_short line is = let words = joined-width (line_words line) in let few = line-width line is in omega arith

pub text_no_end : (line : BoundLine) → IsLine line → HasNoEnd (line_text line)
text_no_end line is = above-no_end (line_text line) (text_above line is)

-- lines with the same bytes are the same
pub one_line : (a b : BoundLine) → IsLine a → IsLine b → line_text a ≡ line_text b → a ≡ b
one_line a b is_a is_b same =
    let read : Some a ≡ Some b = sym (text_again a is_a) ∙ ap (λ (bytes : List ℕ). line_in (words_in bytes)) same ∙ text_again b is_b in cc

pub text-append : (xs ys : List BoundLine) → text_of (xs ++ ys) ≡ text_of xs ++ text_of ys
text-append [] ys = refl
text-append (x ∷ xs) ys = ap (λ (t : List ℕ). line_text x ++ 10 ∷ t) (text-append xs ys) ∙ sym (append_assoc (line_text x) (10 ∷ text_of xs) (text_of ys))

-- Two texts.

-- the first lines go on where the others end
pub record GoesOn (xs ys : List BoundLine) (r s : List ℕ) : Type 0 where
  pub line : BoundLine
  pub more : List BoundLine
  pub longer : xs ≡ ys ++ line ∷ more
  pub rest : s ≡ line_text line ++ 10 ∷ (text_of more ++ r)

pub data Compared (xs ys : List BoundLine) (r s : List ℕ) : Type 0 where
  alike : xs ≡ ys → r ≡ s → Compared xs ys r s
  first_longer : GoesOn xs ys r s → Compared xs ys r s
  second_longer : GoesOn ys xs s r → Compared xs ys r s

compared-cons : (x y : BoundLine) (xs ys : List BoundLine) (r s : List ℕ) → x ≡ y → Compared xs ys r s → Compared (x ∷ xs) (y ∷ ys) r s
compared-cons x y xs ys r s e (alike same rest) = alike (ap (λ (l : BoundLine). l ∷ xs) e ∙ ap (λ (ls : List BoundLine). y ∷ ls) same) rest
compared-cons x y xs ys r s e (first_longer g) = first_longer (record { line = g.line; more = g.more; longer = ap (λ (l : BoundLine). l ∷ xs) e ∙ ap (λ (ls : List BoundLine). y ∷ ls) g.longer; rest = g.rest })
compared-cons x y xs ys r s e (second_longer g) = second_longer (record { line = g.line; more = g.more; longer = ap (λ (l : BoundLine). l ∷ ys) (sym e) ∙ ap (λ (ls : List BoundLine). x ∷ ls) g.longer; rest = g.rest })

-- of lines with what stands behind them, if the bytes are the same, the lines are, or those of one go on
pub compare : (xs ys : List BoundLine) (r s : List ℕ) → AllByRecursion IsLine xs → AllByRecursion IsLine ys → text_of xs ++ r ≡ text_of ys ++ s → Compared xs ys r s
compare [] [] r s p q same = alike refl same
compare (x ∷ xs) [] r s p q same = first_longer (record { line = x; more = xs; longer = refl; rest = sym same ∙ append_assoc (line_text x) (10 ∷ text_of xs) r })
compare [] (y ∷ ys) r s p q same = second_longer (record { line = y; more = ys; longer = refl; rest = same ∙ append_assoc (line_text y) (10 ∷ text_of ys) s })
compare (x ∷ xs) (y ∷ ys) r s p q same =
    let cut = one_cut (line_text x) (line_text y) (text_of xs ++ r) (text_of ys ++ s) (text_no_end x p.0) (text_no_end y q.0)
    (sym (append_assoc (line_text x) (10 ∷ text_of xs) r) ∙ same ∙ append_assoc (line_text y) (10 ∷ text_of ys) s) in
    compared-cons x y xs ys r s (one_line x y p.0 q.0 cut.0) (compare xs ys r s p.1 q.1 cut.1)
