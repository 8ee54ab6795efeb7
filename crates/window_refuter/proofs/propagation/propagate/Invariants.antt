use Rattle.std.proofs.Common.{◌≡◌, length}
use Rattle.rcpsp_model.specs.Project.{job_count}
use Rattle.window_refuter.specs.Windows.{AreWithin, NoneIsEmpty}
use Rattle.window_refuter.specs.Propagation.{IsNarrowed, room}
use Rattle.window_refuter.proofs.propagation.propagate.Given as goal

abbrev pub invariant-loop-job : goal.invariant-loop-job
invariant-loop-job l = record {
  size : length l.windows ≡ job_count l.project;
  within : AreWithin l.end l.windows;
  none_empty : NoneIsEmpty l.project l.windows;
  narrowed : IsNarrowed l.project l.end l.initial.windows l.initial.steps.items l.windows l.steps.items;
}

abbrev pub decreases-loop-job : goal.decreases-loop-job
decreases-loop-job l = room l.windows
