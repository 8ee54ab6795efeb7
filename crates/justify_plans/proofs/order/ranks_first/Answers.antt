use Rattle.justify_plans.proofs.Ordered.{ranks-first}
use Rattle.justify_plans.proofs.order.ranks_first.Goals as goal

pub returns-clause-first : goal.returns-clause-first
returns-clause-first c = (ranks-first c.args.project.now c.known.ensures.acyclic c.args.job c.args.other _ _ c.requires.job c.requires.other c.rank.ensures.value c.rank-2.ensures.value).0

pub returns-clause-second : goal.returns-clause-second
returns-clause-second c = (ranks-first c.args.project.now c.known.ensures.acyclic c.args.job c.args.other _ _ c.requires.job c.requires.other c.rank.ensures.value c.rank-2.ensures.value).1
