use Rattle.std.proofs.Common.{arith}
use Rattle.justify_plans.proofs.JobByJob.{usage-others}
use Rattle.justify_plans.proofs.room.usage_beside.Goals as goal

pub loop-done-init : goal.loop-done-init
loop-done-init c = record {
  sum = let e = usage-others c.args.project.now c.args.places.now c.args.job c.args.resource c.args.period in omega arith;
  limit = omega arith;
}
