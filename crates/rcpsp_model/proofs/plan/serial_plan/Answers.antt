use Rattle.rcpsp_model.proofs.plan.serial_plan.Goals as goal
use Rattle.rcpsp_model.proofs.OnePlan.{one_plan_law}
use Rattle.rcpsp_model.proofs.SerialPlans.{serial_plan_law}

pub returns : goal.returns
returns c = record { exists = serial_plan_law; one = one_plan_law }
