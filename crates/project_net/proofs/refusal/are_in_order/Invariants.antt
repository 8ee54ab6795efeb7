use Rattle.std.proofs.Common.{ℕ, suc, ◌<◌, get_or}
use Rattle.rcpsp_model.specs.Project.{MayPrecede}
use Rattle.project_net.proofs.CalendarRows.{no_row}
use Rattle.project_net.proofs.refusal.are_in_order.Given as goal

abbrev pub invariant-loop-place : goal.invariant-loop-place
invariant-loop-place l = (i : ℕ) → suc i < l.place → MayPrecede (get_or l.rows i no_row) (get_or l.rows (suc i) no_row)
