use Rattle.tree_worker.proofs.HearSteps.{hears-more, stay-on}
use Rattle.tree_worker.proofs.live_index.LiveIndex.take_in.Goals as goal

pub loop-done-preserved : goal.loop-done-preserved
loop-done-preserved g c = record {
  hears =
      hears-more c.args.table.now c.args.pass.now c.loop-done.pass c.take_in_row.new.pass (g.C.Cells.refused c.args.cells.now) (g.C.Cells.refused c.loop-done.cells) (g.C.Cells.refused c.take_in_row.new.cells)
      (g.C.Cells.empty c.args.cells.now) (g.C.Cells.empty c.loop-done.cells) (g.C.Cells.empty c.take_in_row.new.cells) c.loop-done.invariant.hears c.take_in_row.ensures.table c.take_in_row.ensures.listens
      c.take_in_row.ensures.refused_later c.take_in_row.ensures.empty_later;
  stay =
      stay-on c.args.rows.now c.args.pass.now.view c.loop-done.pass.view c.args.self.now.records.items c.loop-done.self.records.items c.take_in_row.new.self.records.items c.loop-done.invariant.hears.listens
      c.loop-done.invariant.stay c.take_in_row.ensures.records;
}
