use Rattle.std.proofs.Common.{arith}
use Rattle.search_log.proofs.BlockPlaces.{length-view}
use Rattle.search_log.proofs.blocks.Blocks.set.Goals as goal

pub put_at-requires-clause-within : goal.put_at-requires-clause-within
put_at-requires-clause-within g c =
    let all = length-view c.self.inside.len _ c.args.self.now c.self.invariant.filled c.self.view_is in
    let within = c.requires in
    omega arith
