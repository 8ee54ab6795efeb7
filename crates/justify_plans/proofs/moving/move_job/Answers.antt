use Rattle.justify_plans.proofs.Moved.{placed-from}
use Rattle.justify_plans.proofs.moving.move_job.Goals as goal

pub set_start-requires-clause-placed : goal.set_start-requires-clause-placed
set_start-requires-clause-placed c = placed-from c.args.project.now c.args.places.now c.args.end c.requires.feasible c.requires.within c.requires.end
