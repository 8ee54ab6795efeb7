use Rattle.std.proofs.Common.{◌≡◌, ◌+◌, ◌≤◌, drop, max}
use Rattle.rcpsp_model.specs.Schedule.{end_of, entries_from, entries}
use Rattle.justify_plans.proofs.places.plan_end.Given as goal

abbrev pub invariant-loop-done : goal.invariant-loop-done
invariant-loop-done l = record {
  end : max l.end (end_of l.project (entries_from (l.done + 1) (drop l.done l.places))) ≡ end_of l.project (entries l.places);
  limit : l.end ≤ 1000009999;
}
