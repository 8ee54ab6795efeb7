use Rattle.std.proofs.Common.{arith}
use Rattle.std.proofs.lemmas.Bool.{both_ways}
use Rattle.rcpsp_model.proofs.BoundsHold.{tail_bound-one}
use Rattle.search_rounds.proofs.ClosingFills.{late-work, works-step, lower-below}
use Rattle.search_rounds.proofs.closing.late_bound.Goals as goal

pub returns-then-reaches-clause-late : goal.returns-then-reaches-clause-late
returns-then-reaches-clause-late c =
    late-work c.args.project.now c.args.node.now.front c.loop-resource.resource c.args.end c.work_bound-work.result c.work_bound-work.ensures.some (c.reaches.ensures.0 c.if-reaches.true)

pub loop-resource-preserved : goal.loop-resource-preserved
loop-resource-preserved c =
    works-step c.args.project.now c.args.node.now.front c.args.end c.loop-resource.resource c.work_bound-work.result c.loop-resource.invariant c.work_bound-work.ensures.some c.work_bound-work.ensures.none.0
    (λ late. both_ways c.reaches.result c.if-reaches.false (c.reaches.ensures.1 late))

pub returns-clause-none : goal.returns-clause-none
returns-clause-none c =
    lower-below c.args.project.now c.args.node.now.front c.args.end
    (λ t h. let same = tail_bound-one c.args.project.now c.args.node.now.front t c.tail_bound.result h c.tail_bound.ensures.value in let less = c.if-end-tail_bound.false in omega arith)
    (λ k w h.
    let last = h.renewable.1 in
    let over = c.loop-resource-test.false in
    let end = c.renewables-resource-end.ensures.value in
    c.loop-resource.invariant k w (omega arith) h)
