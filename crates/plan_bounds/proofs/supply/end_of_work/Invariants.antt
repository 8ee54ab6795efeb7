use Rattle.std.proofs.Common.{◌≤◌}
use Rattle.plan_bounds.proofs.SupplySteps.{IsLeftAt}
use Rattle.plan_bounds.proofs.supply.end_of_work.Given as goal

-- the stretches before this one don't hold the work
abbrev pub invariant-loop-place : goal.invariant-loop-place
invariant-loop-place l = IsLeftAt l.project l.resource l.from l.work l.stretches l.place l.at l.left × (l.at ≤ 1290000)
