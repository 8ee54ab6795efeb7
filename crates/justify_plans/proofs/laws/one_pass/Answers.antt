use Rattle.justify_plans.proofs.SomeResult.{pass_law}
use Rattle.justify_plans.proofs.laws.one_pass.Goals as goal

pub returns : goal.returns
returns c = pass_law
