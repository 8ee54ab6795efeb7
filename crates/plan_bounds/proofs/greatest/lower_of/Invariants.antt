use Rattle.std.proofs.Common.{◌≤◌}
use Rattle.plan_bounds.proofs.LowerSteps.{LowerSoFar}
use Rattle.plan_bounds.proofs.greatest.lower_of.Given as goal

abbrev pub invariant-loop-resource : goal.invariant-loop-resource
invariant-loop-resource l = LowerSoFar l.project l.node.front l.resource l.lower × (l.lower ≤ 999999999)
