use Rattle.std.proofs.Common.{sym, subst}
use Rattle.project_net.specs.Feasible.{IsPlaced}
use Rattle.justify_plans.proofs.Moved.{placed-self}
use Rattle.plan_search.proofs.improving.improve_plan.Goals as goal

pub end-end-requires-clause-starts : goal.end-end-requires-clause-starts
end-end-requires-clause-starts c = (placed-self c.args.project.now c.args.plan c.requires.feasible c.requires.end).starts

pub searched-requires : goal.searched-requires
searched-requires c =
    subst (IsPlaced c.args.project.now) (sym c.in_ok-places.ensures) (placed-self c.args.project.now c.args.plan c.requires.feasible c.requires.end)
