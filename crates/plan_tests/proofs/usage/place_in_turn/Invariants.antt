use Rattle.profiles.specs.Placed.{IsProfileOf}
use Rattle.plan_tests.proofs.usage.place_in_turn.Given as goal

abbrev pub invariant-loop-done : goal.invariant-loop-done
invariant-loop-done g l = IsProfileOf l.project l.profile
