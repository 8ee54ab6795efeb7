use Rattle.std.proofs.Common.{ℕ, ◌<◌, ◌≤◌}
use Rattle.rcpsp_model.specs.Project.{IsJob}
use Rattle.justify_plans.specs.Room.{IsQuiet, IsSteady}
use Rattle.justify_plans.proofs.changes.next_change.Given as goal

abbrev pub invariant-loop-done : goal.invariant-loop-done
invariant-loop-done l = record {
  after : l.after < l.next;
  until : l.next ≤ l.until;
  quiet : (i : ℕ) → IsJob l.project i → IsQuiet l.project l.places l.after l.next i;
  steady : (k : ℕ) → 1 ≤ k → k ≤ l.done → IsSteady l.project l.after l.next k;
}
