use Rattle.std.proofs.Common.{◌∙◌}
use Rattle.project_gen.proofs.DrawSteps.{no_idle_needs, some_idle_needs}
use Rattle.project_gen.proofs.drawing.idle_needs.Goals as goal

pub returns-then-not-has_budgets : goal.returns-then-not-has_budgets
returns-then-not-has_budgets c = no_idle_needs c.args.modes c.new.result c.if-not-has_budgets.ensures c.new.ensures

pub returns : goal.returns
returns c = some_idle_needs c.args.modes c.from_vec.result c.if-not-has_budgets.ensures (c.from_vec.ensures ∙ c.in_ok-needs.ensures.items)
