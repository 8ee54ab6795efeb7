use Rattle.serial_scheme.proofs.PlanFacts.{first-feasible, first-end, none-first}
use Rattle.serial_scheme.proofs.plan.first_plan.Goals as goal

pub returns-clause-feasible : goal.returns-clause-feasible
returns-clause-feasible c = first-feasible c.args.project.now c.known.ensures c.earlier.result c.earlier.ensures

pub returns-clause-end : goal.returns-clause-end
returns-clause-end c = first-end c.args.project.now c.known.ensures c.earlier.result c.earlier.ensures

pub returns-clause-infeasible : goal.returns-clause-infeasible
returns-clause-infeasible c = none-first c.args.project.now _ c.in_ok-shortest.shortest c.earlier.result c.earlier.ensures c.in_ok-shortest.ensures.plan c.in_ok-shortest.ensures.infeasible
