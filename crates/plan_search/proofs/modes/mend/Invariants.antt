use Rattle.project_net.specs.Feasible.{IsPlaced}
use Rattle.plan_search.proofs.modes.mend.Given as goal

abbrev pub invariant-mends : goal.invariant-mends
invariant-mends l = IsPlaced l.project l.places
