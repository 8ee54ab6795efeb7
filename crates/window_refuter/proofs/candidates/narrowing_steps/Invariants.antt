use Rattle.std.proofs.Common.{ℕ, ◌≤◌}
use Rattle.std.specs.Prelude.{All}
use Rattle.rcpsp_model.specs.Project.{IsJob}
use Rattle.window_refuter.specs.Narrowing.{IsGrounded}
use Rattle.window_refuter.specs.Candidates.{HasStepsOf}
use Rattle.window_refuter.proofs.candidates.narrowing_steps.Given as goal

abbrev pub invariant-loop-done : goal.invariant-loop-done
invariant-loop-done l = record {
  grounded : All (IsGrounded l.project) l.steps.items;
  has : (i j : ℕ) → 1 ≤ i → i ≤ l.done → IsJob l.project j → HasStepsOf l.project l.steps.items i j;
}
