use Rattle.std.proofs.Common.{ℕ, ◌≤◌}
use Rattle.rcpsp_model.specs.Schedule.{entries}
use Rattle.project_net.specs.Feasible.{KeepsCapacity}
use Rattle.project_net.proofs.feasible.keeps_capacities.Given as goal

abbrev pub invariant-loop-done : goal.invariant-loop-done
invariant-loop-done l = (k : ℕ) → 1 ≤ k → k ≤ l.done → KeepsCapacity l.project (entries l.schedule) k
