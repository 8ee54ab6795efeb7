use Rattle.std.proofs.Common.{◌≡◌, ◌*◌, ◌≤◌, take}
use Rattle.std.specs.Prelude.{sum_by}
use Rattle.plan_bounds.specs.Work.{work_from}
use Rattle.plan_bounds.proofs.work.active_work.Given as goal

abbrev pub invariant-loop-place : goal.invariant-loop-place
invariant-loop-place l = (l.sum ≡ sum_by (work_from l.project l.resource l.from) (take l.place l.active)) × (l.sum ≤ 10000000000 * l.place)
