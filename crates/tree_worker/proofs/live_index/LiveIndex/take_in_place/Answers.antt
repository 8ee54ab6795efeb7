use Rattle.search_table.specs.Counts.{seen_of}
use Rattle.tree_worker.proofs.HearSteps.{found-other}
use Rattle.tree_worker.proofs.live_index.LiveIndex.take_in_place.Goals as goal

pub returns-in-Found-clause-records : goal.returns-in-Found-clause-records
returns-in-Found-clause-records g c =
    let rows = c.args.rows.now in
    let number = c.args.pass.now.view.number in
    let count = seen_of c.args.worker c.read.new.pass.view in
    c.keep.ensures rows number (found-other rows number c.args.worker c.args.place count c.in-Found.shown.now c.in-Found.note c.requires.other c.requires.low c.requires.high c.requires.place c.in-Found.ensures.looked)
