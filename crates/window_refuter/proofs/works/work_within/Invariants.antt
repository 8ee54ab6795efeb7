use Rattle.std.proofs.Common.{◌≡◌, ◌≤◌, ◌*◌}
use Rattle.std.specs.Prelude.{filter, sum_by}
use Rattle.rcpsp_model.specs.Project.{numbers_from}
use Rattle.rcpsp_model.specs.Modes.{least_work}
use Rattle.window_refuter.specs.Windows.{is_within}
use Rattle.window_refuter.proofs.works.work_within.Given as goal

abbrev pub invariant-loop-done : goal.invariant-loop-done
invariant-loop-done l = record {
  work : l.work ≡ sum_by (λ j. least_work l.project j l.resource) (filter (is_within l.windows l.from l.until) (numbers_from 1 l.done));
  limit : l.work ≤ 10000000000 * l.done;
}
