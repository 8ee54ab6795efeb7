use Rattle.std.proofs.Common.{sym, subst}
use Rattle.justify_plans.specs.declared.direction.Direction.{Direction}
use Rattle.justify_plans.specs.Passes.{IsNewStart}
use Rattle.justify_plans.proofs.Moved.{placed-from, fits_by-now, fits_from-now, backward-start, forward-start}
use Rattle.justify_plans.proofs.moving.new_start.Goals as goal

pub latest_finish-until-requires-clause-placed : goal.latest_finish-until-requires-clause-placed
latest_finish-until-requires-clause-placed c = placed-from c.args.project.now c.args.places.now c.args.end c.requires.feasible c.requires.within c.requires.end

pub last_fit-requires-clause-placed : goal.last_fit-requires-clause-placed
last_fit-requires-clause-placed c = placed-from c.args.project.now c.args.places.now c.args.end c.requires.feasible c.requires.within c.requires.end

pub last_fit-requires-clause-now : goal.last_fit-requires-clause-now
last_fit-requires-clause-now c =
    fits_by-now c.args.project.now c.known.ensures.acyclic c.args.places.now c.args.job c.args.end c.latest_finish-until.result c.requires.feasible c.requires.within c.requires.job c.latest_finish-until.ensures.greatest

pub earliest_start-from-requires-clause-placed : goal.earliest_start-from-requires-clause-placed
earliest_start-from-requires-clause-placed c = placed-from c.args.project.now c.args.places.now c.args.end c.requires.feasible c.requires.within c.requires.end

pub first_fit-requires-clause-placed : goal.first_fit-requires-clause-placed
first_fit-requires-clause-placed c = placed-from c.args.project.now c.args.places.now c.args.end c.requires.feasible c.requires.within c.requires.end

pub first_fit-requires-clause-now : goal.first_fit-requires-clause-now
first_fit-requires-clause-now c =
    fits_from-now c.args.project.now c.known.ensures.acyclic c.args.places.now c.args.job c.earliest_start-from.result c.requires.feasible c.requires.job c.earliest_start-from.ensures.least

pub returns-in-Backward : goal.returns-in-Backward
returns-in-Backward c =
    subst (λ (way : Direction). IsNewStart way c.args.project.now c.args.end c.args.places.now c.args.job c.last_fit.result) (sym c.in-Backward.is)
    (backward-start c.args.project.now c.known.ensures.acyclic c.args.places.now c.args.job c.args.end c.latest_finish-until.result c.last_fit.result c.requires.feasible.whole c.latest_finish-until.ensures.end c.latest_finish-until.ensures.succs c.latest_finish-until.ensures.greatest c.last_fit.ensures)

pub returns-in-Forward : goal.returns-in-Forward
returns-in-Forward c =
    subst (λ (way : Direction). IsNewStart way c.args.project.now c.args.end c.args.places.now c.args.job c.first_fit.result) (sym c.in-Forward.is)
    (forward-start c.args.project.now c.known.ensures.acyclic c.args.places.now c.args.job c.args.end c.earliest_start-from.result c.first_fit.result c.requires.feasible.whole c.earliest_start-from.ensures.preds c.earliest_start-from.ensures.least c.first_fit.ensures)
