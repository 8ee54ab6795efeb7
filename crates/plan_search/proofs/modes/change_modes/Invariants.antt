use Rattle.project_net.specs.Feasible.{IsPlaced}
use Rattle.plan_search.proofs.modes.change_modes.Given as goal

abbrev pub invariant-changes : goal.invariant-changes
invariant-changes l = IsPlaced l.project l.places
