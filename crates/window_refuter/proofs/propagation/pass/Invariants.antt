use Rattle.std.proofs.Common.{◌≡◌, length, take}
use Rattle.rcpsp_model.specs.Project.{job_count}
use Rattle.window_refuter.specs.Windows.{AreWithin, NoneIsEmpty}
use Rattle.window_refuter.specs.Propagation.{IsNarrowed}
use Rattle.window_refuter.proofs.Narrowed.{IsSoFar}
use Rattle.window_refuter.proofs.propagation.pass.Given as goal

abbrev pub invariant-loop-step : goal.invariant-loop-step
invariant-loop-step l = record {
  size : length l.windows ≡ job_count l.project;
  within : AreWithin l.end l.windows;
  none_empty : NoneIsEmpty l.project l.windows;
  narrowed : IsNarrowed l.project l.end l.initial.windows l.initial.steps.items l.windows l.steps.items;
  so_far : IsSoFar l.project (take l.step-index l.tried) l.initial.windows l.so_far l.windows;
}
