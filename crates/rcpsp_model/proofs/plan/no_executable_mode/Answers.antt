use Rattle.rcpsp_model.proofs.plan.no_executable_mode.Goals as goal
use Rattle.rcpsp_model.proofs.PlansFeasible.{no_mode_law}

pub returns : goal.returns
returns c = no_mode_law
