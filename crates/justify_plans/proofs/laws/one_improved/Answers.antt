use Rattle.justify_plans.proofs.SomeResult.{improved_law}
use Rattle.justify_plans.proofs.laws.one_improved.Goals as goal

pub returns : goal.returns
returns c = improved_law
