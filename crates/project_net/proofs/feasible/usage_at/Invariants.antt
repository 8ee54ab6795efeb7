use Rattle.std.proofs.Common.{◌≡◌, ◌+◌, ◌*◌, ◌≤◌, drop}
use Rattle.rcpsp_model.specs.Schedule.{entries, entries_from, usage}
use Rattle.rcpsp_model.proofs.Lists.{total}
use Rattle.rcpsp_model.proofs.Usage.{load}
use Rattle.project_net.proofs.feasible.usage_at.Given as goal

abbrev pub invariant-loop-done : goal.invariant-loop-done
invariant-loop-done l = record {
  sum : l.usage + total (load l.project l.resource l.period) (entries_from (l.done + 1) (drop l.done l.schedule)) ≡ usage l.project (entries l.schedule) l.resource l.period;
  limit : l.usage ≤ 1000000 * l.done;
}
