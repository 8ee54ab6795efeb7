use Rattle.std.proofs.Common.{◌+◌, arith, sym, subst}
use Rattle.std.proofs.lemmas.Bool.{both_ways}
use Rattle.sched_base.specs.JobSet.{member}
use Rattle.serial_scheme.proofs.JobSteps.{UrgentBelow, urgent-more, urgent-skip, most_urgent-from, none_open-from}
use Rattle.serial_scheme.proofs.priority.most_urgent.Goals as goal
use Rattle.serial_scheme.proofs.priority.most_urgent.Goals.{then-is_open, else-is_open}

pub loop-job-preserved : goal.loop-job-preserved
loop-job-preserved c =
    let P = c.args.project.now in let placed = member c.args.placed in let n = c.loop-job.job in
    elim c.if-is_open.branch [
      | then-is_open w ↦ subst (UrgentBelow P placed (n + 1)) (sym w.best-is)
          (urgent-more P c.known.ensures.acyclic placed n c.loop-job.best w.more_urgent-best.result (c.is_open.ensures.0 w.if-is_open.true) w.more_urgent-best.ensures c.loop-job.invariant)
      | else-is_open w ↦ subst (UrgentBelow P placed (n + 1)) (sym w.best-is)
          (urgent-skip P placed n c.loop-job.best (λ o. both_ways _ w.if-is_open.false (c.is_open.ensures.1 o)) c.loop-job.invariant)
    ]

pub returns-clause-some : goal.returns-clause-some
returns-clause-some c =
    most_urgent-from c.args.project.now (member c.args.placed) c.loop-job.job c.loop-job.best (let n = c.jobs-job-end.ensures.value in let out = c.loop-job-test.false in omega arith) c.loop-job.invariant

pub returns-clause-none : goal.returns-clause-none
returns-clause-none c =
    none_open-from c.args.project.now (member c.args.placed) c.loop-job.job c.loop-job.best (let n = c.jobs-job-end.ensures.value in let out = c.loop-job-test.false in omega arith) c.loop-job.invariant
