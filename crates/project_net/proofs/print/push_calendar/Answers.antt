use Rattle.std.proofs.Common.{ℕ, List, [], ◌∷◌, ◌++◌, ◌∙◌, ap, sym, codes, length}
use Rattle.std.specs.Fmt.{decimal}
use Rattle.std.proofs.lemmas.Bool.{eq-eqb, ne_eqb}
use Rattle.std.proofs.lemmas.List.{append-nil}
use Rattle.std.proofs.lemmas.Result.{IfOk-equal}
use Rattle.project_net.specs.Canonical.{stars, text_of}
use Rattle.project_net.proofs.CalendarLines.{row_lines, calendar-parts, no-calendar}
use Rattle.project_net.proofs.print.push_calendar.Goals as goal

pub returns-then-rows-eq0 : goal.returns-then-rows-eq0
returns-then-rows-eq0 c =
    let P = c.args.project.now in
    let none = sym c.cal_rows-rows.ensures.value ∙ c.if-rows-eq0.true in
    sym (append-nil c.args.text.now.items) ∙ ap (λ (bs : List ℕ). c.args.text.now.items ++ bs) (sym (no-calendar P (eq-eqb (length P.calendar) 0 none)))

pub returns : goal.returns
returns c =
    let P = c.args.project.now in
    let some = rw c.cal_rows-rows.ensures.value at c.if-rows-eq0.false in
    IfOk-equal c.push_stars.result _ _ _ c.push_stars.ensures
    (ap (λ (t : List ℕ). t ++ text_of (stars ∷ []))
    (c.in_ok-push_calendar_rows.ensures
    ∙ ap (λ (t : List ℕ). t ++ text_of (row_lines P.calendar))
    (c.in_ok-end_line.ensures
    ∙ ap (λ (t : List ℕ). t ++ 0x0A ∷ [])
    (c.in_ok-push_number.ensures
    ∙ ap (λ (n : ℕ). c.push_line-2.new.text.items ++ decimal n) c.cal_rows-rows.ensures.value
    ∙ ap (λ (t : List ℕ). t ++ decimal (length P.calendar))
    (c.in_ok-push_line-2.ensures
    ∙ ap (λ (t : List ℕ). t ++ text_of (codes "resource from to capacity" ∷ [])) c.in_ok-push_line.ensures))))
    ∙ calendar-parts P c.args.text.now.items (ne_eqb (length P.calendar) 0 some))
