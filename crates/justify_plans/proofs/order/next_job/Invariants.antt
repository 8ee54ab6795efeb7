use Rattle.sched_base.specs.JobSet.{member}
use Rattle.justify_plans.proofs.Ordered.{FirstBelow}
use Rattle.justify_plans.proofs.order.next_job.Given as goal

abbrev pub invariant-loop-job : goal.invariant-loop-job
invariant-loop-job l = FirstBelow l.direction l.project l.places (member l.done) l.job l.best
