use Rattle.rcpsp_model.proofs.bounds.work_bound.Goals as goal
use Rattle.rcpsp_model.proofs.WorkHeld.{work_law}

pub returns : goal.returns
returns c = work_law
