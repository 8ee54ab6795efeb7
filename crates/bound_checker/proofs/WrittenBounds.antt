-- The text of a bound, written line by line.
use Rattle.std.proofs.Common.{◌≡◌, ℕ, suc, ◌+◌, ◌<◌, ◌≤◌, ◌∙◌, arith, refl, sym, ap, List, [], ◌∷◌, ◌++◌, length, map, take, get_or}
use Rattle.std.proofs.Math.Seq.{take-suc}
use Rattle.std.proofs.lemmas.List.{take_all, map-append}
use Rattle.window_refuter.specs.declared.step.BoundStep.{BoundStep}
use Rattle.window_refuter.specs.declared.line.BoundLine.{BoundLine}
use Rattle.window_refuter.specs.declared.line.BoundLine.TheVariants.{Title, Bound, Step, End}
use Rattle.window_refuter.specs.Text.{line_text}
use Rattle.bound_checker.specs.Text.{text_of, bound_lines}
use Rattle.bound_checker.proofs.LineTexts.{text-append}

-- so many steps behind the bound
abbrev pub lines_to : ℕ → List BoundStep → ℕ → List BoundLine
lines_to b steps i = Title ∷ Bound b ∷ map Step (take i steps)

pub next-lines : (b i : ℕ) (steps : List BoundStep) (d : BoundStep) (text new : List ℕ) → i < length steps → text ≡ text_of (lines_to b steps i) → new ≡ text ++ (line_text (Step (get_or steps i d)) ++ 10 ∷ []) → new ≡ text_of (lines_to b steps (i + 1))
next-lines b i steps d text new within e f =
    let step = get_or steps i d in
    let n : i + 1 ≡ suc i = omega arith in
    let lines : lines_to b steps i ++ Step step ∷ [] ≡ lines_to b steps (i + 1) =
    ap (λ (ls : List BoundLine). Title ∷ Bound b ∷ ls) (sym (map-append Step (take i steps) (step ∷ [])) ∙ ap (map Step) (sym (take-suc steps i d within) ∙ ap (λ (k : ℕ). take k steps) (sym n))) in
    f ∙ ap (λ (xs : List ℕ). xs ++ (line_text (Step step) ++ 10 ∷ [])) e ∙ sym (text-append (lines_to b steps i) (Step step ∷ [])) ∙ ap text_of lines

pub last-line : (b i : ℕ) (steps : List BoundStep) (text new : List ℕ) → length steps ≤ i → text ≡ text_of (lines_to b steps i) → new ≡ text ++ (line_text End ++ 10 ∷ []) → new ≡ text_of (bound_lines b steps)
last-line b i steps text new all e f =
    f ∙ ap (λ (xs : List ℕ). xs ++ (line_text End ++ 10 ∷ [])) (e ∙ ap (λ (ss : List BoundStep). text_of (Title ∷ Bound b ∷ map Step ss)) (take_all i steps all)) ∙ sym (text-append (Title ∷ Bound b ∷ map Step steps) (End ∷ []))
