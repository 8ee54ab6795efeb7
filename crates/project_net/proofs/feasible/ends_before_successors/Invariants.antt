use Rattle.std.proofs.Common.{ℕ, ◌-◌, ◌≤◌}
use Rattle.rcpsp_model.specs.Project.{Before}
use Rattle.project_net.specs.Feasible.{entry_in}
use Rattle.project_net.proofs.feasible.ends_before_successors.Given as goal

abbrev pub invariant-loop-next : goal.invariant-loop-next
invariant-loop-next l = record {
  high : l.last ≤ 128;
  before : (j : ℕ) → Before l.project l.job j → j ≤ l.last → l.finish ≤ (entry_in l.schedule j).start;
}

abbrev pub decreases-loop-next : goal.decreases-loop-next
decreases-loop-next l = 128 - l.last
