-- Two lists of lines with the same text are the same.
use Rattle.std.proofs.Common.{◌≡◌, ℕ, ◌∙◌, arith, refl, sym, ap, List, [], ◌∷◌, ◌++◌, length, length-append, map, append_assoc, Some}
use Rattle.std.specs.Prelude.{◌==◌}
use Rattle.std.specs.List.{slice_split, AllByRecursion}
use Rattle.proof_log.specs.declared.line.ReportLine.{ReportLine}
use Rattle.proof_log.specs.Line.{line_text, IsLine}
use Rattle.proof_log.specs.Reading.{line_in, words_in}
use Rattle.proof_log.specs.Text.{text_of_lines}
use Rattle.proof_log.proofs.CutParts.{first_part}
use Rattle.proof_log.proofs.LinesAgain.{text_again, text_above}
use Rattle.proof_log.proofs.WrittenParts.{text_of_line, text_of_parts, nothing}

text_cons : (line : ReportLine) (lines : List ReportLine) → text_of_lines (line ∷ lines) ≡ line_text line ++ 0x0A ∷ text_of_lines lines
text_cons line lines =
    text_of_parts (line ∷ []) lines
    ∙ ap (λ (xs : List ℕ). xs ++ text_of_lines lines) (text_of_line line)
    ∙ append_assoc (line_text line) (0x0A ∷ []) (text_of_lines lines)

-- the lines of a text, and nothing behind the last LF
lines_of_text : (lines : List ReportLine) → AllByRecursion IsLine lines → slice_split (λ byte. byte == 10) (text_of_lines lines) ≡ map line_text lines ++ [] ∷ []
lines_of_text [] all = ap (slice_split (λ byte. byte == 10)) nothing
lines_of_text (line ∷ lines) all =
    ap (slice_split (λ byte. byte == 10)) (text_cons line lines)
    ∙ first_part 10 (line_text line) (text_of_lines lines) (text_above line all.0)
    ∙ ap (λ (parts : List (List ℕ)). line_text line ∷ parts) (lines_of_text lines all.1)

one_line : (a b : ReportLine) → IsLine a → IsLine b → line_text a ≡ line_text b → a ≡ b
one_line a b is_a is_b same =
    let read : Some a ≡ Some b = sym (text_again a is_a) ∙ ap (λ (bytes : List ℕ). line_in (words_in bytes)) same ∙ text_again b is_b in cc

head : (a b : List ℕ) (as_ bs : List (List ℕ)) → a ∷ as_ ≡ b ∷ bs → (a ≡ b) × (as_ ≡ bs)
head a b as_ bs same = (cc, cc)

same_lines : (xs ys : List ReportLine) → AllByRecursion IsLine xs → AllByRecursion IsLine ys → map line_text xs ++ [] ∷ [] ≡ map line_text ys ++ [] ∷ [] → xs ≡ ys
same_lines [] [] p q same = refl
same_lines [] (y ∷ ys) p q same =
    let lengths = ap length same in
    absurd (omega (arith, lengths, length-append (map line_text ys) ([] ∷ [])))
same_lines (x ∷ xs) [] p q same =
    let lengths = ap length same in
    absurd (omega (arith, lengths, length-append (map line_text xs) ([] ∷ [])))
same_lines (x ∷ xs) (y ∷ ys) p q same =
    let parts = head (line_text x) (line_text y) (map line_text xs ++ [] ∷ []) (map line_text ys ++ [] ∷ []) same in
    let first = one_line x y p.0 q.0 parts.0 in
    let rest = same_lines xs ys p.1 q.1 parts.1 in
    ap (λ (l : ReportLine). l ∷ xs) first ∙ ap (λ (ls : List ReportLine). y ∷ ls) rest

-- lines with the same text are the same
pub one_list : (xs ys : List ReportLine) → AllByRecursion IsLine xs → AllByRecursion IsLine ys → text_of_lines xs ≡ text_of_lines ys → xs ≡ ys
one_list xs ys p q same = same_lines xs ys p q (sym (lines_of_text xs p) ∙ ap (slice_split (λ byte. byte == 10)) same ∙ lines_of_text ys q)
