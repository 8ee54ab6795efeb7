use Rattle.std.proofs.Common.{ℕ, ◌≤◌}
use Rattle.rcpsp_model.specs.Project.{budget}
use Rattle.rcpsp_model.specs.Schedule.{entries, used}
use Rattle.project_net.proofs.feasible.keeps_budgets.Given as goal

abbrev pub invariant-loop-done : goal.invariant-loop-done
invariant-loop-done l = (k : ℕ) → 1 ≤ k → k ≤ l.done → used l.project (entries l.schedule) k ≤ budget l.project k
