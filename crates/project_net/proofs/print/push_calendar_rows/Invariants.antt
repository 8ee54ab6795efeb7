use Rattle.std.proofs.Common.{◌≡◌, ◌++◌, map, take}
use Rattle.project_net.specs.Canonical.{row, calendar_row, text_of}
use Rattle.project_net.proofs.print.push_calendar_rows.Given as goal

abbrev pub invariant-loop-place : goal.invariant-loop-place
invariant-loop-place l = l.text.items ≡ l.initial.text.items ++ text_of (map (λ r. row (calendar_row r)) (take l.place l.project.calendar))
