use Rattle.rcpsp_model.proofs.bounds.work_quotient.Goals as goal
use Rattle.rcpsp_model.proofs.WorkHeld.{quotient_law}

pub returns : goal.returns
returns c = quotient_law
