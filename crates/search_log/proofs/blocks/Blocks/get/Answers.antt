use Rattle.std.proofs.Common.{arith}
use Rattle.search_log.proofs.BlockPlaces.{length-view}
use Rattle.search_log.proofs.blocks.Blocks.get.Goals as goal

pub item_at-requires-clause-within : goal.item_at-requires-clause-within
item_at-requires-clause-within g c =
    let all = length-view c.self.inside.len _ c.args.self.now c.self.invariant.filled c.self.view_is in
    let within = c.requires in
    omega arith
