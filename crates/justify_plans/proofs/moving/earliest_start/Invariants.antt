use Rattle.std.proofs.Common.{ℕ, ◌-◌, ◌≤◌}
use Rattle.rcpsp_model.specs.Project.{Before}
use Rattle.justify_plans.specs.Placings.{finish_in}
use Rattle.justify_plans.proofs.moving.earliest_start.Given as goal

abbrev pub invariant-loop-next : goal.invariant-loop-next
invariant-loop-next l = record {
  high : l.last ≤ 128;
  preds : (i : ℕ) → Before l.project i l.job → i ≤ l.last → finish_in l.project l.places i ≤ l.earliest;
  least : (t : ℕ) → ((i : ℕ) → Before l.project i l.job → finish_in l.project l.places i ≤ t) → l.earliest ≤ t;
}

abbrev pub decreases-loop-next : goal.decreases-loop-next
decreases-loop-next l = 128 - l.last
