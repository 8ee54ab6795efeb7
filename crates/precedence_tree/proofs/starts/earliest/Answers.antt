use Rattle.std.proofs.Common.{arith}
use Rattle.rcpsp_model.specs.Bounds.{ready}
use Rattle.precedence_tree.proofs.StartSteps.{start-ready, tried-first, tried-next, tried-least, tried-calm}
use Rattle.precedence_tree.proofs.starts.earliest.Goals as goal

pub returns-then-duration-eq0 : goal.returns-then-duration-eq0
returns-then-duration-eq0 c =
    start-ready c.args.project.now c.args.base.now.front c.args.job c.args.mode c.args.ready (let value = c.duration.ensures.value in let none = c.if-duration-eq0.true in omega arith) c.requires.ready

pub loop-start-init : goal.loop-start-init
loop-start-init c =
    tried-first c.args.project.now c.args.base.now.active c.args.job c.args.mode (ready c.args.project.now c.args.base.now.front c.args.job) c.earliest_by_capacities-start.result
    (let value = c.duration.ensures.value in let some = c.if-duration-eq0.false in omega arith) c.earliest_by_capacities-start.ensures

pub loop-start-preserved : goal.loop-start-preserved
loop-start-preserved c =
    tried-next c.args.project.now c.args.base.now.active c.args.job c.args.mode (ready c.args.project.now c.args.base.now.front c.args.job) c.loop-start.start c.in-Some.next c.loop-start.invariant c.in-Some.ensures.some

pub returns-in-None : goal.returns-in-None
returns-in-None c =
    tried-least c.args.project.now c.args.base.now.front c.args.base.now.active c.args.job c.args.mode c.loop-start.start c.requires.base.front c.requires.base.active c.loop-start.invariant c.in-None.ensures.none

pub returns : goal.returns
returns c =
    tried-calm c.args.project.now c.args.base.now.front c.args.base.now.active c.args.job c.args.mode c.loop-start.start c.requires.base.front c.requires.base.active c.loop-start.invariant
    (let over = c.loop-start-test.false in let calm = c.calm.ensures.value in omega arith)
