use Rattle.round_shares.proofs.CrewParts.{crew_law}
use Rattle.round_shares.proofs.law.crew_part.Goals as goal

pub returns : goal.returns
returns c = crew_law
