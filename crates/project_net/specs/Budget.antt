-- A project with another budget.
use Rattle.std.specs.Prelude.{ℕ, ◌-◌, slice_set}
use Rattle.rcpsp_model.specs.Project.{Project}

-- the project that differs in the budget of one nonrenewable resource
abbrev pub with_budget : Project → ℕ → ℕ → Project
with_budget P l b = record P { budgets = slice_set P.budgets (l - 1) b }
