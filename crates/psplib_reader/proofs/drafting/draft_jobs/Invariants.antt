use Rattle.std.proofs.Common.{◌≡◌, length}
use Rattle.psplib_reader.specs.Drafted.{drafted}
use Rattle.psplib_reader.proofs.drafting.draft_jobs.Given as goal

abbrev pub invariant-loop-of_job : goal.invariant-loop-of_job
invariant-loop-of_job l = record {
  size : length l.jobs.items ≡ length l.yielded;
  jobs : l.jobs.items ≡ drafted l.rows l.yielded;
}
