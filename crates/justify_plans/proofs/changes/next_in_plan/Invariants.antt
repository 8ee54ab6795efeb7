use Rattle.std.proofs.Common.{ℕ, ◌<◌, ◌≤◌}
use Rattle.justify_plans.specs.Room.{IsQuiet}
use Rattle.justify_plans.proofs.changes.next_in_plan.Given as goal

abbrev pub invariant-loop-done : goal.invariant-loop-done
invariant-loop-done l = record {
  after : l.after < l.next;
  until : l.next ≤ l.until;
  quiet : (i : ℕ) → 1 ≤ i → i ≤ l.done → IsQuiet l.project l.places l.after l.next i;
}
