use Rattle.rcpsp_model.proofs.plan.placed_in_turn.Goals as goal
use Rattle.rcpsp_model.proofs.PlansFeasible.{plan_law}

pub returns : goal.returns
returns c = plan_law
