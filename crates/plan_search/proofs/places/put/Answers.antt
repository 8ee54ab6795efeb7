use Rattle.plan_search.proofs.PlacedJobs.{placed-set}
use Rattle.plan_search.proofs.places.put.Goals as goal

pub returns : goal.returns
returns c = placed-set c.args.project.now c.args.places.now c.args.job c.args.place c.requires.placed c.requires.job c.requires.mode c.requires.start
