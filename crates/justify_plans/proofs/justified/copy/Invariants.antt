use Rattle.std.proofs.Common.{◌≡◌, take}
use Rattle.justify_plans.proofs.justified.copy.Given as goal

abbrev pub invariant-loop-done : goal.invariant-loop-done
invariant-loop-done l = l.places.items ≡ take l.done l.schedule
