use Rattle.std.proofs.Common.{◌≡◌, ◌*◌, ◌≤◌, take}
use Rattle.std.specs.Prelude.{sum_by}
use Rattle.project_gen.specs.Made.{needs_together}
use Rattle.project_gen.proofs.needs.budget.Given as goal

abbrev pub invariant-loop-job : goal.invariant-loop-job
invariant-loop-job l = record {
  sum : l.sum ≡ sum_by (λ job. needs_together l.resource job.modes) (take l.job-index l.jobs);
  limit : l.sum ≤ 2000000 * l.job-index;
}
