use Rattle.std.proofs.Common.{ℕ, ◌-◌, ◌≤◌}
use Rattle.rcpsp_model.specs.Project.{Before}
use Rattle.justify_plans.specs.Placings.{start_in}
use Rattle.justify_plans.proofs.moving.latest_finish.Given as goal

abbrev pub invariant-loop-next : goal.invariant-loop-next
invariant-loop-next l = record {
  high : l.last ≤ 128;
  end : l.latest ≤ l.end;
  succs : (j : ℕ) → Before l.project l.job j → j ≤ l.last → l.latest ≤ start_in l.places j;
  greatest : (f : ℕ) → f ≤ l.end → ((j : ℕ) → Before l.project l.job j → f ≤ start_in l.places j) → f ≤ l.latest;
}

abbrev pub decreases-loop-next : goal.decreases-loop-next
decreases-loop-next l = 128 - l.last
