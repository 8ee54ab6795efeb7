use Rattle.std.proofs.Common.{◌≤◌, ◌+◌, drop}
use Rattle.proof_log.specs.Text.{job_lines}
use Rattle.proof_log.proofs.WrittenParts.{Writes, jobs_from}
use Rattle.proof_log.proofs.writing.write_jobs.Given as goal

abbrev pub invariant-loop-index : goal.invariant-loop-index
invariant-loop-index g l = record {
  written : Writes (g.K.Sink.held l.initial.out) (g.K.Sink.held l.out) (job_lines l.places) (jobs_from (l.index + 1) (drop l.index l.places));
  later : g.K.Sink.faults l.initial.out ≤ g.K.Sink.faults l.out;
}
