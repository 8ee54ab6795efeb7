use Rattle.std.proofs.Common.{◌≡◌, take}
use Rattle.plan_search.proofs.improving.copy.Given as goal

abbrev pub invariant-loop-done : goal.invariant-loop-done
invariant-loop-done l = l.places.items ≡ take l.done l.schedule
