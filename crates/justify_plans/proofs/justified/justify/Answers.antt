use Rattle.justify_plans.proofs.PassSteps.{copied-improved}
use Rattle.justify_plans.proofs.justified.justify.Goals as goal

pub returns-clause-feasible : goal.returns-clause-feasible
returns-clause-feasible c = (copied-improved c.args.project.now c.known.ensures.acyclic c.args.schedule.now c.in_ok-places.places.items c.improved.result c.requires.feasible c.in_ok-places.ensures c.improved.ensures).feasible

pub returns-clause-modes : goal.returns-clause-modes
returns-clause-modes c = (copied-improved c.args.project.now c.known.ensures.acyclic c.args.schedule.now c.in_ok-places.places.items c.improved.result c.requires.feasible c.in_ok-places.ensures c.improved.ensures).modes

pub returns-clause-end : goal.returns-clause-end
returns-clause-end c = (copied-improved c.args.project.now c.known.ensures.acyclic c.args.schedule.now c.in_ok-places.places.items c.improved.result c.requires.feasible c.in_ok-places.ensures c.improved.ensures).within
