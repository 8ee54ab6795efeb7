use Rattle.std.proofs.Common.{ℕ, ◌<◌, ◌≤◌}
use Rattle.justify_plans.specs.Room.{IsQuiet}
use Rattle.justify_plans.proofs.changes.last_in_plan.Given as goal

abbrev pub invariant-loop-done : goal.invariant-loop-done
invariant-loop-done l = record {
  from : l.from ≤ l.last;
  before : l.last < l.before;
  quiet : (i : ℕ) → 1 ≤ i → i ≤ l.done → IsQuiet l.project l.places l.last l.before i;
}
