use Rattle.std.proofs.Common.{arith}
use Rattle.precedence_tree.proofs.Ordered.{no_active}
use Rattle.plan_bounds.proofs.TailSteps.{past-more, past-all}
use Rattle.plan_bounds.proofs.tails.latest_after.Goals as goal

pub loop-place-preserved : goal.loop-place-preserved
loop-place-preserved c = (
  past-more c.args.project.now c.known.ensures.acyclic c.args.active.now c.args.floor c.loop-place.place c.loop-place.bound c.end_after-own.result c.max-bound.result c.loop-place-test.true (c.requires.named c.loop-place.place no_active c.loop-place-test.true).0 c.end_after-own.ensures.value c.max-bound.ensures c.loop-place.invariant.0,
  (let most = c.max-bound.ensures in let limit = c.end_after-own.ensures.limit in let old = c.loop-place.invariant.1 in omega arith),
)

pub returns-clause-value : goal.returns-clause-value
returns-clause-value c = past-all c.args.project.now c.args.active.now c.args.floor c.loop-place.place c.loop-place.bound (let end = c.loop-place.auto.place-end in let out = c.loop-place-test.false in omega arith) c.loop-place.invariant.0
