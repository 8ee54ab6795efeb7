use Rattle.project_gen.proofs.DrawSteps.{no_needs, some_needs, no_words}
use Rattle.project_gen.proofs.drawing.draw_needs.Goals as goal

pub returns-then-not-has_budgets-clause-needs : goal.returns-then-not-has_budgets-clause-needs
returns-then-not-has_budgets-clause-needs g c = no_needs c.args.modes (g.R.Rng.stream c.args.rng.now) c.new.result c.if-not-has_budgets.ensures c.new.ensures

pub returns-then-not-has_budgets-clause-left : goal.returns-then-not-has_budgets-clause-left
returns-then-not-has_budgets-clause-left g c = no_words c.args.modes (g.R.Rng.stream c.args.rng.now) c.if-not-has_budgets.ensures

pub returns-clause-needs : goal.returns-clause-needs
returns-clause-needs g c = some_needs c.args.modes (g.R.Rng.stream c.args.rng.now) c.draw_two.result c.if-not-has_budgets.ensures c.draw_two.ensures.numbers
