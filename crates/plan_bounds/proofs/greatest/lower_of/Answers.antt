use Rattle.std.proofs.Common.{ℕ, ◌≤◌, arith, ap, ◌∙◌, max}
use Rattle.std.specs.Prelude.{Option, Some, None, IfSome, unwrap_or}
use Rattle.plan_bounds.proofs.LowerSteps.{lower-none, lower-more, lower-all}
use Rattle.plan_bounds.proofs.greatest.lower_of.Goals as goal

few : (o : Option ℕ) → IfSome o (λ w. w ≤ 999999999) → unwrap_or o 0 ≤ 999999999
few None h = omega arith
few (Some w) h = h

pub loop-resource-init : goal.loop-resource-init
loop-resource-init c = (lower-none c.args.project.now c.args.node.now.front c.tail_bound_of-lower.result c.tail_bound_of-lower.ensures.value, (let limit = c.tail_bound_of-lower.ensures.limit in omega arith))

pub loop-resource-preserved : goal.loop-resource-preserved
loop-resource-preserved c = (
  lower-more c.args.project.now c.args.node.now.front c.loop-resource.resource c.loop-resource.lower c.max-lower.result c.work_bound_of-work.result c.work_bound_of-work.ensures.some c.work_bound_of-work.ensures.none
      (c.max-lower.ensures ∙ ap (max c.loop-resource.lower) c.unwrap_or.ensures) c.loop-resource.invariant.0,
  (let most = c.max-lower.ensures ∙ ap (max c.loop-resource.lower) c.unwrap_or.ensures in let old = c.loop-resource.invariant.1 in let limit = few c.work_bound_of-work.result c.work_bound_of-work.ensures.limit in omega arith),
)

pub returns-clause-value : goal.returns-clause-value
returns-clause-value c =
    lower-all c.args.project.now c.args.node.now.front c.loop-resource.resource c.loop-resource.lower
    (let n = c.renewables-resource-end.ensures.value in let out = c.loop-resource-test.false in omega arith) c.loop-resource.invariant.0
