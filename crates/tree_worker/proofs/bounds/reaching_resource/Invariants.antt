use Rattle.std.proofs.Common.{ℕ, ◌<◌}
use Rattle.tree_worker.proofs.BoundSteps.{WorkIsBelow}
use Rattle.tree_worker.proofs.bounds.reaching_resource.Given as goal

abbrev pub invariant-loop-resource : goal.invariant-loop-resource
invariant-loop-resource l = (k : ℕ) → k < l.resource → WorkIsBelow l.project l.node.front l.best k
