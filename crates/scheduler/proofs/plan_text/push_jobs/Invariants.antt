use Rattle.std.proofs.Common.{◌+◌, Some, drop, string_bytes}
use Rattle.proof_log.specs.Text.{job_lines}
use Rattle.proof_log.proofs.WrittenParts.{Writes, jobs_from}
use Rattle.scheduler.proofs.plan_text.push_jobs.Given as goal

abbrev pub invariant-loop-index : goal.invariant-loop-index
invariant-loop-index l = Writes (Some (string_bytes l.initial.text)) (Some (string_bytes l.text)) (job_lines l.places) (jobs_from (l.index + 1) (drop l.index l.places))
