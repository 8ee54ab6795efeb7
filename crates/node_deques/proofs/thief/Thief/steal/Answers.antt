use Rattle.node_deques.proofs.Steps.{takes}
use Rattle.node_deques.proofs.thief.Thief.steal.Goals as goal

pub steal_as-requires-clause-takes : goal.steal_as-requires-clause-takes
steal_as-requires-clause-takes c = takes _ _ c.self.invariant.live
