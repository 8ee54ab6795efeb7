use Rattle.bound_checker.proofs.Outcomes.{stays_law, broken_law}
use Rattle.bound_checker.proofs.laws.stays_refused.Goals as goal

pub returns-clause-stays : goal.returns-clause-stays
returns-clause-stays c = stays_law

pub returns-clause-refused : goal.returns-clause-refused
returns-clause-refused c = broken_law
