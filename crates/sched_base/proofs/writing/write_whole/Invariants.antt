use Rattle.std.proofs.Common.{length, take, ◌-◌, ◌≤◌}
use Rattle.sched_base.specs.Outside.{Gains}
use Rattle.sched_base.proofs.writing.write_whole.Given as goal

abbrev pub invariant-loop-written : goal.invariant-loop-written
invariant-loop-written g l = record {
  within : l.written ≤ length l.bytes;
  gained : Gains (g.K.Sink.held l.initial.out) (g.K.Sink.held l.out) (take l.written l.bytes);
  later : g.K.Sink.faults l.initial.out ≤ g.K.Sink.faults l.out;
}

abbrev pub decreases-loop-written : goal.decreases-loop-written
decreases-loop-written g l = length l.bytes - l.written
