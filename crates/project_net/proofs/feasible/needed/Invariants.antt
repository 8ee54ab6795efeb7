use Rattle.std.proofs.Common.{◌≡◌, ◌+◌, ◌*◌, ◌≤◌, drop}
use Rattle.rcpsp_model.specs.Schedule.{entries, entries_from, used}
use Rattle.rcpsp_model.proofs.Lists.{total}
use Rattle.project_net.proofs.FeasibleParts.{need_of}
use Rattle.project_net.proofs.feasible.needed.Given as goal

abbrev pub invariant-loop-done : goal.invariant-loop-done
invariant-loop-done l = record {
  sum : l.needed + total (need_of l.project l.resource) (entries_from (l.done + 1) (drop l.done l.schedule)) ≡ used l.project (entries l.schedule) l.resource;
  limit : l.needed ≤ 1000000 * l.done;
}
