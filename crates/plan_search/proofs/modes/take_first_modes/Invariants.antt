use Rattle.project_net.specs.Feasible.{IsPlaced}
use Rattle.plan_search.proofs.modes.take_first_modes.Given as goal

abbrev pub invariant-loop-done : goal.invariant-loop-done
invariant-loop-done l = IsPlaced l.project l.places
