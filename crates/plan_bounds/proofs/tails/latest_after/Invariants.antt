use Rattle.std.proofs.Common.{◌≤◌}
use Rattle.plan_bounds.proofs.TailSteps.{PastTo}
use Rattle.plan_bounds.proofs.tails.latest_after.Given as goal

abbrev pub invariant-loop-place : goal.invariant-loop-place
invariant-loop-place l = PastTo l.project l.active l.floor l.place l.bound × (l.bound ≤ 2570000)
