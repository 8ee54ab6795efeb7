use Rattle.justify_plans.proofs.JobByJob.{mode-in}
use Rattle.plan_search.proofs.places.place_of.Goals as goal

pub returns-clause-mode : goal.returns-clause-mode
returns-clause-mode c = mode-in c.args.project.now c.args.places.now c.args.job c.requires.placed c.requires.job
