use Rattle.std.proofs.Common.{ℕ, ◌<◌, ◌≤◌}
use Rattle.rcpsp_model.specs.Project.{IsJob}
use Rattle.justify_plans.specs.Room.{IsQuiet, IsSteady}
use Rattle.justify_plans.proofs.changes.last_change.Given as goal

abbrev pub invariant-loop-done : goal.invariant-loop-done
invariant-loop-done l = record {
  from : l.from ≤ l.last;
  before : l.last < l.before;
  quiet : (i : ℕ) → IsJob l.project i → IsQuiet l.project l.places l.last l.before i;
  steady : (k : ℕ) → 1 ≤ k → k ≤ l.done → IsSteady l.project l.last l.before k;
}
