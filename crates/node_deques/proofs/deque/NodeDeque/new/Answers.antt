use Rattle.node_deques.proofs.Steps.{opens}
use Rattle.node_deques.proofs.deque.NodeDeque.new.Goals as goal

pub lifo_as-requires : goal.lifo_as-requires
lifo_as-requires c = opens
