use Rattle.std.proofs.Common.{◌≡◌, take}
use Rattle.serial_scheme.specs.Priority.{done_at}
use Rattle.serial_scheme.proofs.priority.predecessors_done.Given as goal

abbrev pub invariant-loop-entry : goal.invariant-loop-entry
invariant-loop-entry l = l.done ≡ done_at l.project (take l.entry-index l.entries) l.job
