use Rattle.justify_plans.specs.declared.direction.Direction.TheVariants.{Backward}
use Rattle.justify_plans.proofs.PassSteps.{copied-pass}
use Rattle.justify_plans.proofs.justified.backward.Goals as goal

pub returns-clause-feasible : goal.returns-clause-feasible
returns-clause-feasible c = (copied-pass Backward c.args.project.now c.known.ensures.acyclic c.args.schedule.now c.in_ok-places.places.items c.passed.result c.requires.feasible c.in_ok-places.ensures c.passed.ensures).feasible

pub returns-clause-modes : goal.returns-clause-modes
returns-clause-modes c = (copied-pass Backward c.args.project.now c.known.ensures.acyclic c.args.schedule.now c.in_ok-places.places.items c.passed.result c.requires.feasible c.in_ok-places.ensures c.passed.ensures).modes

pub returns-clause-end : goal.returns-clause-end
returns-clause-end c = (copied-pass Backward c.args.project.now c.known.ensures.acyclic c.args.schedule.now c.in_ok-places.places.items c.passed.result c.requires.feasible c.in_ok-places.ensures c.passed.ensures).within
