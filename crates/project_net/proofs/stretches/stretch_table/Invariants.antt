use Rattle.project_net.proofs.StretchTables.{HasTable}
use Rattle.project_net.proofs.stretches.stretch_table.Given as goal

abbrev pub invariant-loop-done : goal.invariant-loop-done
invariant-loop-done l = HasTable l.network l.done l.firsts.items l.stretches.items
