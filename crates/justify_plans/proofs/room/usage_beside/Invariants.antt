use Rattle.std.proofs.Common.{◌≡◌, ◌+◌, ◌*◌, ◌≤◌, drop}
use Rattle.rcpsp_model.specs.Schedule.{entries_from, usage}
use Rattle.rcpsp_model.proofs.Lists.{total}
use Rattle.justify_plans.specs.Placings.{others}
use Rattle.justify_plans.proofs.JobByJob.{load_beside}
use Rattle.justify_plans.proofs.room.usage_beside.Given as goal

abbrev pub invariant-loop-done : goal.invariant-loop-done
invariant-loop-done l = record {
  sum : l.usage + total (load_beside l.project l.job l.resource l.period) (entries_from (l.done + 1) (drop l.done l.places)) ≡ usage l.project (others l.places l.job) l.resource l.period;
  limit : l.usage ≤ 1000000 * l.done;
}
