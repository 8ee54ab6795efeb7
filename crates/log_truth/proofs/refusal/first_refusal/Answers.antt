use Rattle.log_truth.proofs.OneRefusal.{good_law, no_refusal_law, one_refusal_law}
use Rattle.log_truth.proofs.FirstFaults.{either_law}
use Rattle.log_truth.proofs.refusal.first_refusal.Goals as goal

pub returns-clause-good : goal.returns-clause-good
returns-clause-good c = good_law

pub returns-clause-none : goal.returns-clause-none
returns-clause-none c = no_refusal_law

pub returns-clause-one : goal.returns-clause-one
returns-clause-one c = one_refusal_law

pub returns-clause-either : goal.returns-clause-either
returns-clause-either c = either_law
