use Rattle.std.proofs.Common.{ℕ, ◌≤◌}
use Rattle.project_net.specs.Feasible.{EndsBeforeSuccessors}
use Rattle.project_net.proofs.feasible.keeps_order.Given as goal

abbrev pub invariant-loop-done : goal.invariant-loop-done
invariant-loop-done l = (i : ℕ) → 1 ≤ i → i ≤ l.done → EndsBeforeSuccessors l.project l.schedule i
