use Rattle.tree_worker.proofs.HearSteps.{hears-more, stay-on}
use Rattle.tree_worker.proofs.live_index.LiveIndex.take_in_row.Goals as goal

pub loop-place-preserved : goal.loop-place-preserved
loop-place-preserved g c = record {
  hears =
      hears-more c.args.table.now c.args.pass.now c.loop-place.pass c.take_in_place.new.pass (g.C.Cells.refused c.args.cells.now) (g.C.Cells.refused c.loop-place.cells) (g.C.Cells.refused c.take_in_place.new.cells)
      (g.C.Cells.empty c.args.cells.now) (g.C.Cells.empty c.loop-place.cells) (g.C.Cells.empty c.take_in_place.new.cells) c.loop-place.invariant.hears c.take_in_place.ensures.table c.take_in_place.ensures.listens
      c.take_in_place.ensures.refused_later c.take_in_place.ensures.empty_later;
  stay =
      stay-on c.args.rows.now c.args.pass.now.view c.loop-place.pass.view c.args.self.now.records.items c.loop-place.self.records.items c.take_in_place.new.self.records.items c.loop-place.invariant.hears.listens
      c.loop-place.invariant.stay c.take_in_place.ensures.records;
}
