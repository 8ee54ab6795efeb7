use Rattle.sched_base.specs.JobSet.{member}
use Rattle.justify_plans.proofs.PassSteps.{SoFar, left}
use Rattle.justify_plans.proofs.passes.run_pass.Given as goal

abbrev pub invariant-loop-job : goal.invariant-loop-job
invariant-loop-job l = SoFar l.direction l.project l.fn.places l.end (member l.done) l.places

abbrev pub decreases-loop-job : goal.decreases-loop-job
decreases-loop-job l = left l.project (member l.done)
