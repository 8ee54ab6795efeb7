use Rattle.std.proofs.Common.{arith, get_or}
use Rattle.window_refuter.proofs.WindowLimits.{lf_limit}
use Rattle.window_refuter.proofs.DueSums.{due-at, no_due}
use Rattle.window_refuter.proofs.interval.supplies.Goals as goal

pub supply_before-supply-requires-clause-soon : goal.supply_before-supply-requires-clause-soon
supply_before-supply-requires-clause-soon c =
    let own = due-at c.args.project.now c.args.windows.now c.args.dues.now c.requires.dues c.loop-due.due-index no_due c.loop-due-test.true in
    let finish = own.finish in
    let limit = lf_limit c.args.windows.now (get_or c.args.dues.now c.loop-due.due-index no_due).job 1290000 c.requires.within.finishes in
    omega arith
