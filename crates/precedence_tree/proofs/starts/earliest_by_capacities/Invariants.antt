use Rattle.rcpsp_model.specs.Bounds.{ready}
use Rattle.precedence_tree.proofs.StartSteps.{StartsAt}
use Rattle.precedence_tree.proofs.starts.earliest_by_capacities.Given as goal

abbrev pub invariant-loop-resource : goal.invariant-loop-resource
invariant-loop-resource l = StartsAt l.project l.base.active l.job l.mode (ready l.project l.base.front l.job) l.resource l.start
