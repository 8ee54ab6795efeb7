use Rattle.tree_worker.proofs.HearSteps.{HearsAny}
use Rattle.tree_worker.proofs.live_index.LiveIndex.take_in.Given as goal

abbrev pub invariant-loop-done : goal.invariant-loop-done
invariant-loop-done g l =
    HearsAny l.rows l.table l.fn.pass l.pass l.fn.self.records.items l.self.records.items (g.C.Cells.refused l.fn.cells) (g.C.Cells.refused l.cells) (g.C.Cells.empty l.fn.cells) (g.C.Cells.empty l.cells)
