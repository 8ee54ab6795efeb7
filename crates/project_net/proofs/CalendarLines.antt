-- The calendar part of a project's text, row by row.
use Rattle.std.proofs.Common.{◌≡◌, ℕ, ◌+◌, sym, ap, ◌∙◌, append_assoc, List, [], ◌∷◌, ◌++◌, length, map, take, Bool, true, false, cond, eqb, codes, Some}
use Rattle.std.specs.Prelude.{slice_get}
use Rattle.std.specs.Fmt.{decimal}
use Rattle.std.proofs.lemmas.List.{map-append, take_more}
use Rattle.std.proofs.lemmas.Option.{get_or_from_slice_get, slice_get_within}
use Rattle.rcpsp_model.specs.declared.parts.CalRow.{CalRow}
use Rattle.rcpsp_model.specs.Project.{Project}
use Rattle.project_net.specs.Canonical.{row, calendar_row, calendar_lines, text_of, stars}
use Rattle.project_net.proofs.Appended.{text_of-append}

-- the lines of rows of the calendar
abbrev pub row_lines : List CalRow → List (List ℕ)
row_lines rows = map (λ r. row (calendar_row r)) rows

-- one row more was appended
pub row-pushed : (rows : List CalRow) (i : ℕ) (r : CalRow) (old text now : List ℕ) → slice_get rows i ≡ Some r → text ≡ old ++ text_of (row_lines (take i rows)) →
    now ≡ text ++ text_of (row (calendar_row r) ∷ []) → now ≡ old ++ text_of (row_lines (take (i + 1) rows))
row-pushed rows i r old text now is before pushed =
    let more : row_lines (take (i + 1) rows) ≡ row_lines (take i rows) ++ row (calendar_row r) ∷ [] =
    ap row_lines (take_more rows i r (slice_get_within rows i r is) ∙ ap (λ (x : CalRow). take i rows ++ x ∷ []) (get_or_from_slice_get rows i r r is))
    ∙ map-append (λ (x : CalRow). row (calendar_row x)) (take i rows) (r ∷ []) in
    pushed
    ∙ ap (λ (bs : List ℕ). bs ++ text_of (row (calendar_row r) ∷ [])) before
    ∙ append_assoc old (text_of (row_lines (take i rows))) (text_of (row (calendar_row r) ∷ []))
    ∙ ap (λ (bs : List ℕ). old ++ bs) (sym (ap text_of more ∙ text_of-append (row_lines (take i rows)) (row (calendar_row r) ∷ [])))

six : (o a b c d e f : List ℕ) → (((((o ++ a) ++ b) ++ c) ++ d) ++ e) ++ f ≡ o ++ (a ++ (b ++ (c ++ (d ++ (e ++ f)))))
six o a b c d e f = simp append_assoc

-- the part, line by line
pub calendar-parts : (P : Project) (old : List ℕ) → eqb (length P.calendar) 0 ≡ false →
    (((((old ++ text_of (codes "CALENDAR:" ∷ [])) ++ text_of (codes "resource from to capacity" ∷ [])) ++ decimal (length P.calendar)) ++ 0x0A ∷ []) ++ text_of (row_lines P.calendar)) ++ text_of (stars ∷ [])
    ≡ old ++ text_of (calendar_lines P)
unfolding calendar_lines
calendar-parts P old some =
    let rows : List (List ℕ) = row_lines P.calendar in
    let title : List ℕ = codes "CALENDAR:" in
    let heading : List ℕ = codes "resource from to capacity" in
    let number : List ℕ = decimal (length P.calendar) in
    six old (text_of (title ∷ [])) (text_of (heading ∷ [])) number (0x0A ∷ []) (text_of rows) (text_of (stars ∷ []))
    ∙ ap (λ (bs : List ℕ). old ++ (text_of (title ∷ []) ++ (text_of (heading ∷ []) ++ (number ++ 0x0A ∷ bs)))) (sym (text_of-append rows (stars ∷ [])))
    ∙ ap (λ (b : Bool). old ++ text_of (cond b [] (title ∷ heading ∷ number ∷ (rows ++ stars ∷ [])))) (sym some)

pub no-calendar : (P : Project) → eqb (length P.calendar) 0 ≡ true → text_of (calendar_lines P) ≡ []
unfolding calendar_lines
no-calendar P none = ap (λ (b : Bool). text_of (cond b [] (codes "CALENDAR:" ∷ codes "resource from to capacity" ∷ decimal (length P.calendar) ∷ (row_lines P.calendar ++ stars ∷ [])))) none
