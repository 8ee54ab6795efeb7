use Rattle.std.proofs.Common.{◌≡◌, length, map}
use Rattle.std.specs.List.{range_with_len}
use Rattle.project_gen.specs.Drafting.{job_in}
use Rattle.project_gen.proofs.drafting.draft_jobs.Given as goal

abbrev pub invariant-loop-of_job : goal.invariant-loop-of_job
invariant-loop-of_job l = record {
  size : length l.drafted.items ≡ length l.yielded;
  jobs : l.drafted.items ≡ map (job_in (length l.fn.modes) l.predecessors l.fn.modes) (range_with_len 1 (length l.yielded));
}
