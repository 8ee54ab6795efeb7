-- What a search begins with ends no later than the first plan.
use Rattle.std.proofs.Common.{ℕ, zero, suc, ◌≤◌, refl, sym, subst, arith, Option, Some, None, List}
use Rattle.rcpsp_model.specs.declared.parts.Placing.{Placing}
use Rattle.rcpsp_model.specs.Project.{Project, IsProject}
use Rattle.rcpsp_model.specs.Schedule.{end_of, entries}
use Rattle.rcpsp_model.specs.Plan.{IsFirstPlan}
use Rattle.rcpsp_model.proofs.OnePlan.{one_first_plan_law}
use Rattle.plan_search.specs.Plans.{EndsNoLater}
use Rattle.search_log.specs.Lean.{end_number}
use Rattle.search_rounds.specs.Found.{end_of_plan}
use Rattle.scheduler.specs.Planning.{IsPlanFrom, IsStart}
use Rattle.scheduler.proofs.NoLater.{no_later_itself}

ends-by : (P : Project) (plan : Option (List Placing)) (first : List Placing) → EndsNoLater P (Some first) plan → end_number (end_of_plan P plan) ≤ end_of P (entries first)
ends-by P None first no_later = absurd no_later
ends-by P (Some s) first no_later = no_later

-- a plan from tries ends no later than the first plan
pub planned_no_later : (P : Project) (tries : ℕ) (plan : Option (List Placing)) (first : List Placing) → IsProject P → IsPlanFrom P tries plan → IsFirstPlan P (Some first) → EndsNoLater P (Some first) plan
planned_no_later P tries plan first p is first_is =
    subst (λ (o : Option (List Placing)). EndsNoLater P o plan) (one_first_plan_law P is.first (Some first) p.acyclic is.is_first first_is) is.no_later_than_first

from-first : (P : Project) (plan : Option (List Placing)) (first : List Placing) → IsProject P → IsFirstPlan P plan → IsFirstPlan P (Some first) → EndsNoLater P (Some first) plan
from-first P plan first p is first_is =
    subst (λ (o : Option (List Placing)). EndsNoLater P (Some first) o) (sym (one_first_plan_law P plan (Some first) p.acyclic is first_is)) (no_later_itself P (Some first))

pub start_no_later : (P : Project) (tries : ℕ) (plan : Option (List Placing)) (first : List Placing) → IsProject P → IsStart P tries plan → IsFirstPlan P (Some first) →
    end_number (end_of_plan P plan) ≤ end_of P (entries first)
start_no_later P zero plan first p start first_is = ends-by P plan first (from-first P plan first p (start.untried refl) first_is)
start_no_later P (suc n) plan first p start first_is = ends-by P plan first (planned_no_later P (suc n) plan first p (start.tried (omega arith)) first_is)
