use Rattle.std.proofs.Common.{arith}
use Rattle.window_refuter.proofs.Supplies.{supply-from}
use Rattle.window_refuter.proofs.supply.supply_between.Goals as goal

pub overflow_sub-result : goal.overflow_sub-result
overflow_sub-result c =
    let parts = supply-from c.args.project.now c.args.resource c.args.from c.args.until c.requires.forwards in
    let all = c.supply_before.ensures.value in let first = c.supply_before-2.ensures.value in
    omega arith

pub returns : goal.returns
returns c =
    let parts = supply-from c.args.project.now c.args.resource c.args.from c.args.until c.requires.forwards in
    let all = c.supply_before.ensures.value in let first = c.supply_before-2.ensures.value in
    omega arith
