use Rattle.profiles.specs.Placed.{IsProfileOf}
use Rattle.plan_tests.proofs.usage.place_all.Given as goal

abbrev pub invariant-loop-job : goal.invariant-loop-job
invariant-loop-job g l = IsProfileOf l.project l.profile
