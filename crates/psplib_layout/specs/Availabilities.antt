-- The availabilities part: the capacities of the renewable resources, and the budgets of the nonrenewable ones.
use Rattle.std.specs.Prelude.{◌≡◌, ℕ, ◌≤◌, length}
use Rattle.std.specs.List.{AllByRecursion}
pub use Rattle.psplib_layout.specs.declared.content.Amounts.{Amounts}
use Rattle.psplib_layout.specs.Rule.{up_to}
use Rattle.psplib_layout.specs.Wanted.{Wanted, give, ◌>>=◌, times}

-- one for each resource, each at most 1,000,000
pub record AreAmounts (renewables nonrenewables : ℕ) (amounts : Amounts) : Type 0 where
  pub all_capacities : length amounts.capacities ≡ renewables
  pub all_budgets : length amounts.budgets ≡ nonrenewables
  pub capacities : AllByRecursion (λ n. n ≤ 1000000) amounts.capacities
  pub budgets : AllByRecursion (λ n. n ≤ 1000000) amounts.budgets

-- a capacity of each renewable resource, and then a budget of each nonrenewable one
unfoldable pub all_amounts : ℕ → ℕ → Wanted Amounts
all_amounts renewables nonrenewables = do
  capacities ← times renewables (up_to 1000000)
  budgets ← times nonrenewables (up_to 1000000)
  give (record { capacities = capacities; budgets = budgets })
