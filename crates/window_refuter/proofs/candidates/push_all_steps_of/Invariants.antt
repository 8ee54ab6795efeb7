use Rattle.std.proofs.Common.{ℕ, ◌≤◌}
use Rattle.window_refuter.specs.Candidates.{Extends, HasStepsOf}
use Rattle.window_refuter.proofs.candidates.push_all_steps_of.Given as goal

abbrev pub invariant-loop-done : goal.invariant-loop-done
invariant-loop-done l = record {
  extends : Extends l.project l.initial.steps.items l.steps.items;
  has : (j : ℕ) → 1 ≤ j → j ≤ l.done → HasStepsOf l.project l.steps.items l.first j;
}
