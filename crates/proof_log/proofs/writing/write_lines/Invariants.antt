use Rattle.std.proofs.Common.{◌≤◌, drop}
use Rattle.proof_log.proofs.WrittenParts.{Writes}
use Rattle.proof_log.proofs.writing.write_lines.Given as goal

abbrev pub invariant-loop-line : goal.invariant-loop-line
invariant-loop-line g l = record {
  written : Writes (g.K.Sink.held l.initial.out) (g.K.Sink.held l.out) l.lines (drop l.line-index l.lines);
  later : g.K.Sink.faults l.initial.out ≤ g.K.Sink.faults l.out;
}
