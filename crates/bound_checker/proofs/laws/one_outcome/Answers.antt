use Rattle.bound_checker.proofs.Outcomes.{one_outcome_law}
use Rattle.bound_checker.proofs.laws.one_outcome.Goals as goal

pub returns : goal.returns
returns c = one_outcome_law
