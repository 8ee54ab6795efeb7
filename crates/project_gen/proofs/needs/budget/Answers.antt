use Rattle.std.proofs.Common.{arith}
use Rattle.project_gen.proofs.NeedSteps.{budget-more, budget-all}
use Rattle.project_gen.proofs.needs.budget.Goals as goal

pub loop-job-preserved : goal.loop-job-preserved
loop-job-preserved c =
    let more = budget-more c.args.resource c.args.jobs.now c.loop-job.job-index c.job-item.result c.as_slice-modes.result.now c.least_need.result c.greatest_need.result
    (omega arith) c.job-item.is c.as_slice-modes.ensures c.least_need.ensures.value c.greatest_need.ensures.value in
    let sum = c.loop-job.invariant.sum in
    let limit = c.loop-job.invariant.limit in
    let a = c.least_need.ensures.limit in
    let b = c.greatest_need.ensures.limit in
    record { sum = omega arith; limit = omega arith }

pub returns : goal.returns
returns c = budget-all c.args.resource c.args.jobs.now c.loop-job.job-index c.loop-job.sum (omega arith) c.loop-job.invariant.sum
