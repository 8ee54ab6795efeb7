use Rattle.std.proofs.Common.{◌≡◌, ◌≤◌, take}
use Rattle.rcpsp_model.specs.Chain.{least_over}
use Rattle.project_gen.specs.Made.{need_of}
use Rattle.project_gen.proofs.needs.least_need.Given as goal

abbrev pub invariant-loop-place : goal.invariant-loop-place
invariant-loop-place l = record {
  least : l.least ≡ least_over (need_of l.resource) (take l.place l.modes);
  limit : l.least ≤ 1000000;
}
