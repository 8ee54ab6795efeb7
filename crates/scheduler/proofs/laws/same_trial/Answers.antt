use Rattle.scheduler.proofs.TrialsTold.{same_trial_law}
use Rattle.scheduler.proofs.laws.same_trial.Goals as goal

pub returns : goal.returns
returns c = same_trial_law
