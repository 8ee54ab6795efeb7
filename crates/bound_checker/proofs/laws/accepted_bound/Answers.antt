use Rattle.bound_checker.proofs.Outcomes.{sound_law}
use Rattle.bound_checker.proofs.laws.accepted_bound.Goals as goal

pub returns-clause-sound : goal.returns-clause-sound
returns-clause-sound c = sound_law
