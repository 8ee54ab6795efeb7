use Rattle.log_checker.proofs.SoundVerdicts.{stays_law}
use Rattle.log_checker.proofs.laws.stays_refused.Goals as goal

pub returns : goal.returns
returns c P bytes more n reason = stays_law P bytes more n reason
