use Rattle.search_log.proofs.BlockPlaces.{length-view}
use Rattle.search_log.proofs.blocks.Blocks.len.Goals as goal

pub returns : goal.returns
returns g c = length-view c.self.inside.len _ c.args.self.now c.self.invariant.filled c.self.view_is
