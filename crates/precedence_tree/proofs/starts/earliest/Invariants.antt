use Rattle.std.proofs.Common.{◌-◌}
use Rattle.rcpsp_model.specs.Schedule.{calm}
use Rattle.rcpsp_model.specs.Bounds.{ready}
use Rattle.precedence_tree.proofs.StartSteps.{IsTried}
use Rattle.precedence_tree.proofs.starts.earliest.Given as goal

abbrev pub invariant-loop-start : goal.invariant-loop-start
invariant-loop-start l = IsTried l.project l.base.active l.job l.mode (ready l.project l.base.front l.job) l.start

abbrev pub decreases-loop-start : goal.decreases-loop-start
decreases-loop-start l = calm l.project - l.start
