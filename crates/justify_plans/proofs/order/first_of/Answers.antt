use Rattle.justify_plans.proofs.Ordered.{comes-self, best-self}
use Rattle.justify_plans.proofs.order.first_of.Goals as goal

pub returns-in-Some-clause-best : goal.returns-in-Some-clause-best
returns-in-Some-clause-best c = best-self c.args.direction c.args.project.now c.known.ensures.acyclic c.args.places.now c.args.best c.in-Some.other c.in-Some.is c.requires.best

pub returns-in_default-clause-job : goal.returns-in_default-clause-job
returns-in_default-clause-job c = comes-self c.args.direction c.args.project.now c.known.ensures.acyclic c.args.places.now c.args.job c.requires.job

pub returns-in_default-2-clause-job : goal.returns-in_default-2-clause-job
returns-in_default-2-clause-job c = comes-self c.args.direction c.args.project.now c.known.ensures.acyclic c.args.places.now c.args.job c.requires.job
