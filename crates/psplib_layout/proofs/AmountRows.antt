-- The numbers that the capacities and budgets are.
use Rattle.std.proofs.Common.{◌≡◌, ℕ, List, [], ◌++◌, refl, ap, subst, ◌∙◌}
use Rattle.std.proofs.lemmas.List.{append-nil}
use Rattle.psplib_layout.specs.Rule.{up_to}
use Rattle.psplib_layout.specs.Wanted.{give, times, Stands, ◌>>=◌}
use Rattle.psplib_layout.specs.Availabilities.{Amounts, AreAmounts, all_amounts}
use Rattle.psplib_layout.proofs.Stand.{Stands-parts, Stands-both, given, times_found, times_again}
use Rattle.psplib_layout.proofs.ModeRows.{within_limit, keep_limit}

pub record AmountsFound (renewables nonrenewables : ℕ) (numbers : List ℕ) (amounts : Amounts) : Type 0 where
  pub same : numbers ≡ amounts.capacities ++ amounts.budgets
  pub limits : AreAmounts renewables nonrenewables amounts

pub amounts_found : (renewables nonrenewables : ℕ) (numbers : List ℕ) (amounts : Amounts) → Stands (all_amounts renewables nonrenewables) numbers amounts → AmountsFound renewables nonrenewables numbers amounts
unfolding all_amounts
amounts_found renewables nonrenewables numbers amounts h =
    let b = Stands-parts (times renewables (up_to 1000000)) (λ cs. times nonrenewables (up_to 1000000) >>= λ bs. give (record { capacities = cs; budgets = bs })) numbers amounts h in
    let c = Stands-parts (times nonrenewables (up_to 1000000)) (λ bs. give (record { capacities = b.value; budgets = bs })) b.back amounts b.second in
    let read : Amounts = record { capacities = b.value; budgets = c.value } in
    let g = given read c.back amounts c.second in
    let t = times_found renewables (up_to 1000000) b.front b.value b.first in
    let u = times_found nonrenewables (up_to 1000000) c.front c.value c.first in
    let budgets : b.back ≡ c.value = c.numbers_are ∙ ap (λ (ms : List ℕ). c.front ++ ms) g.0 ∙ append-nil c.front ∙ u.same in
    let whole : numbers ≡ b.value ++ c.value = b.numbers_are ∙ ap (λ (rs : List ℕ). rs ++ b.back) t.same ∙ ap (λ (ms : List ℕ). b.value ++ ms) budgets in
    let limits : AreAmounts renewables nonrenewables read = record { all_capacities = t.count; all_budgets = u.count; capacities = within_limit b.value t.each; budgets = within_limit c.value u.each } in
    subst (AmountsFound renewables nonrenewables numbers) g.1 (record { same = whole; limits = limits })

pub amounts_again : (renewables nonrenewables : ℕ) (amounts : Amounts) → AreAmounts renewables nonrenewables amounts → Stands (all_amounts renewables nonrenewables) (amounts.capacities ++ amounts.budgets) amounts
unfolding all_amounts
amounts_again renewables nonrenewables amounts h =
    let cs = amounts.capacities in
    let bs = amounts.budgets in
    let capacities = times_again renewables (up_to 1000000) cs h.all_capacities (keep_limit cs h.capacities) in
    let budgets = times_again nonrenewables (up_to 1000000) bs h.all_budgets (keep_limit bs h.budgets) in
    let tail : Stands (times nonrenewables (up_to 1000000) >>= λ xs. give (record { capacities = cs; budgets = xs })) (bs ++ []) amounts = Stands-both (times nonrenewables (up_to 1000000)) (λ xs. give (record { capacities = cs; budgets = xs })) bs [] bs amounts budgets refl in
    Stands-both (times renewables (up_to 1000000)) (λ xs. times nonrenewables (up_to 1000000) >>= λ ys. give (record { capacities = xs; budgets = ys })) cs bs cs amounts capacities (rw append-nil at tail)
