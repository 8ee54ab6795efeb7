use Rattle.std.proofs.Common.{◌≡◌, ◌*◌, ◌≤◌, take}
use Rattle.rcpsp_model.specs.Schedule.{used}
use Rattle.serial_scheme.proofs.budgets.used_by.Given as goal

abbrev pub invariant-loop-entry : goal.invariant-loop-entry
invariant-loop-entry l = (l.sum ≡ used l.project (take l.entry-index l.entries) l.resource) × (l.sum ≤ 1000000 * l.entry-index)
