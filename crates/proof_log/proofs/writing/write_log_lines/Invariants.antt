use Rattle.std.proofs.Common.{◌≤◌, drop}
use Rattle.proof_log.specs.Text.{log_lines}
use Rattle.proof_log.proofs.WrittenParts.{Writes}
use Rattle.proof_log.proofs.writing.write_log_lines.Given as goal

abbrev pub invariant-loop-line : goal.invariant-loop-line
invariant-loop-line g l = record {
  written : Writes (g.K.Sink.held l.initial.out) (g.K.Sink.held l.out) (log_lines l.log) (log_lines (drop l.line-index l.log));
  later : g.K.Sink.faults l.initial.out ≤ g.K.Sink.faults l.out;
}
