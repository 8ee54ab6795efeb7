use Rattle.std.proofs.Common.{arith}
use Rattle.tree_worker.proofs.BoundSteps.{tail-below, all-below}
use Rattle.tree_worker.proofs.bounds.closing_bound.Goals as goal

pub returns-in-None-clause-none : goal.returns-in-None-clause-none
returns-in-None-clause-none c = all-below c.args.project.now c.args.node.now.front c.args.best c.tail_bound.result c.tail_bound.ensures.value (omega arith) c.in-None.ensures.none

pub returns-in-Some-clause-some : goal.returns-in-Some-clause-some
returns-in-Some-clause-some c = record {
  tail = tail-below c.args.project.now c.args.node.now.front c.args.best c.tail_bound.result c.tail_bound.ensures.value (omega arith);
  lowest = c.in-Some.ensures.some;
}
