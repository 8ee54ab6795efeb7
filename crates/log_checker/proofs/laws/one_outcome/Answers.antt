use Rattle.log_checker.proofs.OneOutcomes.{one_outcome_law}
use Rattle.log_checker.proofs.laws.one_outcome.Goals as goal

pub returns : goal.returns
returns c P bytes = one_outcome_law P bytes
