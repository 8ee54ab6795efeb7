use Rattle.rcpsp_model.proofs.bounds.job_tail.Goals as goal
use Rattle.rcpsp_model.proofs.BoundsHold.{job_tail_law}
use Rattle.rcpsp_model.proofs.Tails.{has_tail_law}

pub returns : goal.returns
returns c = record { exists = has_tail_law; bound = job_tail_law }
