use Rattle.log_checker.proofs.ExactVerdicts.{either_law, exact_law}
use Rattle.log_checker.proofs.laws.exact_refusal.Goals as goal

pub returns-clause-either : goal.returns-clause-either
returns-clause-either c P bytes p = either_law P bytes p

pub returns-clause-exact : goal.returns-clause-exact
returns-clause-exact c P bytes p = exact_law P bytes p
