use Rattle.std.proofs.Common.{◌≤◌}
use Rattle.std.specs.List.{AllWithin}
use Rattle.rcpsp_model.specs.declared.parts.Entry.{Entry}
use Rattle.plan_tests.proofs.usage.start_by.Given as goal

abbrev pub invariant-loop-entry : goal.invariant-loop-entry
invariant-loop-entry l = AllWithin (λ (e : Entry). e.start ≤ l.period) l.entries 0 l.entry-index
