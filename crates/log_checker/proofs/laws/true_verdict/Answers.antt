use Rattle.log_checker.proofs.SoundVerdicts.{accepted_holds, accepted_claim}
use Rattle.log_checker.proofs.laws.true_verdict.Goals as goal

pub returns-clause-holds : goal.returns-clause-holds
returns-clause-holds c P bytes verdict = accepted_holds P bytes verdict

pub returns-clause-claim : goal.returns-clause-claim
returns-clause-claim c P bytes verdict = accepted_claim P bytes verdict
