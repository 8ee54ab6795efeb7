use Rattle.std.proofs.Common.{◌≤◌, ◌+◌, ◌-◌}
use Rattle.project_net.specs.Canonical.{horizon}
use Rattle.window_refuter.specs.Refuted.{NoneRefutes, ShowsBound}
use Rattle.window_refuter.proofs.bound.window_bound.Given as goal

abbrev pub invariant-loop-low : goal.invariant-loop-low
invariant-loop-low l = record {
  order : l.low ≤ l.high;
  most : l.high ≤ horizon l.project + 1;
  limit : l.high ≤ 1290001;
  none : l.high ≤ horizon l.project → NoneRefutes l.project l.high;
  shows : ShowsBound l.project l.low l.steps;
}

abbrev pub decreases-loop-low : goal.decreases-loop-low
decreases-loop-low l = l.high - l.low
