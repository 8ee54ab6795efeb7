use Rattle.std.proofs.Common.{◌≡◌, ◌↔◌, length}
use Rattle.rcpsp_model.specs.Project.{job_count}
use Rattle.window_refuter.specs.Steps.{Refutes}
use Rattle.window_refuter.proofs.RefuteSteps.{FromPlace}
use Rattle.window_refuter.proofs.refutation.refutes.Given as goal

abbrev pub invariant-loop-place : goal.invariant-loop-place
invariant-loop-place l = record {
  size : length l.windows.windows ≡ job_count l.project;
  same : Refutes l.project l.end l.steps ↔ FromPlace l.project l.windows l.steps l.place;
}
