use Rattle.std.proofs.Common.{◌≡◌, ◌≤◌, List}
use Rattle.rcpsp_model.specs.declared.parts.Placing.{Placing}
use Rattle.rcpsp_model.specs.Schedule.{IsFeasible, end_of, entries}
use Rattle.justify_plans.specs.Improved.{IsImproved}
use Rattle.justify_plans.proofs.passes.improve.Given as goal

-- what the plan in hand is improved to is what the first one is improved to
abbrev pub invariant-passes : goal.invariant-passes
invariant-passes l = record {
  feasible : IsFeasible l.project l.places;
  end : l.end ≡ end_of l.project (entries l.places);
  limit : l.end ≤ 1290000;
  goes_on : (r : List Placing) → IsImproved l.project l.places r → IsImproved l.project l.fn.places r;
}

abbrev pub decreases-passes : goal.decreases-passes
decreases-passes l = l.end
