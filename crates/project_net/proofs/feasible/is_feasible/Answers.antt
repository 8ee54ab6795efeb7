use Rattle.std.proofs.Common.{sym, ◌∙◌}
use Rattle.std.proofs.lemmas.Bool.{both_ways}
use Rattle.project_net.specs.Feasible.{IsPlaced}
use Rattle.project_net.proofs.FeasibleParts.{feasible-from, order-of, capacities-of}
use Rattle.project_net.proofs.feasible.is_feasible.Goals as goal
use Rattle.project_net.proofs.feasible.is_feasible.Goals.{then-keeps_budgets, else-keeps_budgets}

pub returns-then-keeps_order : goal.returns-then-keeps_order
returns-then-keeps_order c =
    let project = c.args.project.now in let schedule = c.args.schedule.now in
    let placed : IsPlaced project schedule = record { whole = c.requires.whole; modes = c.has_modes_of.ensures.0 c.if-not-has_modes_of.false; starts = c.requires.starts } in (
      λ yes_. elim c.if-keeps_budgets.branch [
        | then-keeps_budgets w ↦
            feasible-from project schedule placed (w.keeps_order.ensures.0 (sym w.value-is ∙ c.if-keeps_order.true)) (c.keeps_budgets.ensures.0 w.if-keeps_budgets.true) (c.keeps_capacities.ensures.0 yes_)
        | else-keeps_budgets w ↦ absurd (both_ways _ w.if-keeps_budgets.false (sym w.value-is ∙ c.if-keeps_order.true))
      ],
      λ feasible. c.keeps_capacities.ensures.1 (capacities-of project schedule feasible),
    )

pub returns-else-keeps_order : goal.returns-else-keeps_order
returns-else-keeps_order c =
    let project = c.args.project.now in let schedule = c.args.schedule.now in (
      λ yes_. absurd (both_ways _ c.if-keeps_order.false yes_),
      λ feasible. elim c.if-keeps_budgets.branch [
        | then-keeps_budgets w ↦ w.value-is ∙ w.keeps_order.ensures.1 (order-of project schedule c.known.ensures.limits feasible)
        | else-keeps_budgets w ↦ w.value-is ∙ c.keeps_budgets.ensures.1 feasible.budgets
      ],
    )
