use Rattle.std.proofs.Common.{◌≡◌, ◌+◌, arith, sym, subst, false}
use Rattle.std.specs.Prelude.{true}
use Rattle.sched_base.specs.JobSet.{member}
use Rattle.justify_plans.proofs.Ordered.{FirstBelow, below-more, below-skip}
use Rattle.justify_plans.proofs.order.next_job.Goals as goal
use Rattle.justify_plans.proofs.order.next_job.Goals.{then-not-has, else-not-has}

pub loop-job-preserved : goal.loop-job-preserved
loop-job-preserved c =
    let P = c.args.project.now in let s = c.args.places.now in let n = c.loop-job.job in let low = c.loop-job.auto.job in
    let jobs = c.jobs-job-end.ensures.value in let test = c.loop-job-test.true in
    elim c.if-not-has.branch [
      | then-not-has w ↦
          let free : member c.args.done n ≡ false = cc in
          subst (FirstBelow c.args.direction P s (member c.args.done) (n + 1)) (sym w.best-is)
          (below-more c.args.direction P c.known.ensures.acyclic s (member c.args.done) n c.loop-job.best w.first_of.result (low, omega arith) free w.first_of.ensures.either w.first_of.ensures.job w.first_of.ensures.best c.loop-job.invariant)
      | else-not-has w ↦
          let moved : member c.args.done n ≡ true = cc in
          subst (FirstBelow c.args.direction P s (member c.args.done) (n + 1)) (sym w.best-is) (below-skip c.args.direction P s (member c.args.done) n c.loop-job.best moved c.loop-job.invariant)
    ]
