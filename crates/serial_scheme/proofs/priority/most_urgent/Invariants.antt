use Rattle.sched_base.specs.JobSet.{member}
use Rattle.serial_scheme.proofs.JobSteps.{UrgentBelow}
use Rattle.serial_scheme.proofs.priority.most_urgent.Given as goal

abbrev pub invariant-loop-job : goal.invariant-loop-job
invariant-loop-job l = UrgentBelow l.project (member l.placed) l.job l.best
