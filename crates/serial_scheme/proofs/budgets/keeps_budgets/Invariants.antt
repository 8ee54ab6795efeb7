use Rattle.std.proofs.Common.{ℕ, ◌≤◌, ◌<◌}
use Rattle.rcpsp_model.specs.Project.{budget}
use Rattle.rcpsp_model.specs.Schedule.{used}
use Rattle.serial_scheme.proofs.budgets.keeps_budgets.Given as goal

abbrev pub invariant-loop-resource : goal.invariant-loop-resource
invariant-loop-resource l = (k : ℕ) → 1 ≤ k → k < l.resource → used l.project l.entries k ≤ budget l.project k
