use Rattle.tree_worker.proofs.HearSteps.{HearsOf}
use Rattle.tree_worker.proofs.live_index.found_among.Given as goal

abbrev pub invariant-loop : goal.invariant-loop
invariant-loop g l = HearsOf l.project l.rows l.table l.fn.pass l.pass l.records (g.C.Cells.refused l.fn.cells) (g.C.Cells.refused l.cells) (g.C.Cells.empty l.fn.cells) (g.C.Cells.empty l.cells)
