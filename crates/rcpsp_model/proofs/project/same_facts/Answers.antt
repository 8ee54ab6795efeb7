use Rattle.rcpsp_model.proofs.project.same_facts.Goals as goal
use Rattle.rcpsp_model.proofs.SameFacts.{same_facts_law}

pub returns : goal.returns
returns c = same_facts_law
