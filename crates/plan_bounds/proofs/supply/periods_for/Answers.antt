use Rattle.plan_bounds.proofs.SupplySteps.{quotient-least, one-each}
use Rattle.plan_bounds.proofs.supply.periods_for.Goals as goal

pub returns-clause-value : goal.returns-clause-value
returns-clause-value c = quotient-least c.args.work c.args.capacity c.requires.some

pub returns-clause-few : goal.returns-clause-few
returns-clause-few c = (quotient-least c.args.work c.args.capacity c.requires.some).least c.args.work (one-each c.args.work c.args.capacity c.requires.some)
