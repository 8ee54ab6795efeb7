use Rattle.std.proofs.Common.{arith}
use Rattle.tree_worker.proofs.BoundSteps.{lowest-reached, not-reached, works-none, works-more, works-all}
use Rattle.tree_worker.proofs.bounds.reaching_resource.Goals as goal

pub loop-resource-init : goal.loop-resource-init
loop-resource-init c = works-none c.args.project.now c.args.node.now.front c.args.best

pub loop-resource-preserved : goal.loop-resource-preserved
loop-resource-preserved c =
    let P = c.args.project.now in
    let F = c.args.node.now.front in
    works-more P F c.args.best c.loop-resource.resource c.loop-resource.invariant (not-reached P F c.args.best c.loop-resource.resource c.is_reached.result c.if-is_reached.false c.is_reached.ensures)

pub returns-clause-none : goal.returns-clause-none
returns-clause-none c =
    works-all c.args.project.now c.args.node.now.front c.args.best c.loop-resource.resource (let n = c.renewables-resource-end.ensures.value in let out = c.loop-resource-test.false in omega arith) c.loop-resource.invariant

pub returns-then-is_reached-clause-some : goal.returns-then-is_reached-clause-some
returns-then-is_reached-clause-some c =
    lowest-reached c.args.project.now c.args.node.now.front c.args.best c.loop-resource.resource c.is_reached.result c.if-is_reached.true c.is_reached.ensures c.loop-resource.invariant
