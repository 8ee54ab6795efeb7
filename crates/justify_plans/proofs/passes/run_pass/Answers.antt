use Rattle.std.proofs.Common.{arith}
use Rattle.sched_base.specs.JobSet.{member}
use Rattle.justify_plans.proofs.Moved.{placed-from, placed-self}
use Rattle.justify_plans.proofs.PassSteps.{so_far-push, left-less}
use Rattle.justify_plans.proofs.passes.run_pass.Goals as goal

pub plan_end-end-requires : goal.plan_end-end-requires
plan_end-end-requires c = record { placed = placed-self c.args.project.now c.args.places.now c.requires.feasible c.requires.end }

pub next_job-requires : goal.next_job-requires
next_job-requires c = record {
  placed = placed-from c.args.project.now c.loop-job.places c.plan_end-end.result c.loop-job.invariant.feasible c.loop-job.invariant.within
      (let end = c.plan_end-end.ensures.value in let few = c.requires.end in omega arith);
}

pub loop-job-smaller : goal.loop-job-smaller
loop-job-smaller c = left-less c.args.project.now (member c.loop-job.done) (member c.with-done.result) c.in-Some.job c.in-Some.ensures.some.job c.in-Some.ensures.some.unmoved c.with-done.ensures

pub loop-job-preserved : goal.loop-job-preserved
loop-job-preserved c =
    so_far-push c.args.direction c.args.project.now c.known.ensures.acyclic c.args.places.now c.plan_end-end.result (member c.loop-job.done) (member c.with-done.result) c.loop-job.places c.move_job.new.places c.in-Some.job
    c.loop-job.invariant c.in-Some.ensures.some c.move_job.ensures c.with-done.ensures
