-- Plans that are made without a search of the tree: the first plan, justified, and what tries make of it.
use Rattle.std.specs.Prelude.{◌≡◌, ℕ, ◌≤◌, Option, Some, None, IfSome, List}
use Rattle.rcpsp_model.specs.declared.parts.Placing.{Placing}
use Rattle.rcpsp_model.specs.Project.{Project}
use Rattle.rcpsp_model.specs.Schedule.{IsFeasible, end_of, entries}
use Rattle.rcpsp_model.specs.Plan.{IsFirstPlan}
use Rattle.justify_plans.specs.Improved.{IsImproved}
use Rattle.plan_search.specs.Plans.{EndsNoLater}
use Rattle.scheduler.specs.declared.planning.Plan.{Plan}

-- what passes back and forth improve a plan to; none where there is no plan
abbrev pub IsJustified : Project → Option (List Placing) → Option (List Placing) → Type 0
IsJustified P None None = Unit {0}
IsJustified P (Some s) (Some r) = IsImproved P s r
IsJustified P None (Some r) = ⊥
IsJustified P (Some s) None = ⊥

-- A plan from so many tries. They begin with the first plan, justified, and with none of them it is that plan. It is feasible, and
-- ends no later than the justified plan, nor than the first one; where there is a first plan there is one
pub record IsPlanFrom (P : Project) (tries : ℕ) (plan : Option (List Placing)) : Type 0 where
  pub first : Option (List Placing)
  pub is_first : IsFirstPlan P first
  pub justified : Option (List Placing)
  pub is_justified : IsJustified P first justified
  pub untried : tries ≡ 0 → plan ≡ justified
  pub feasible : IfSome plan (IsFeasible P)
  pub no_later : EndsNoLater P justified plan
  pub no_later_than_first : EndsNoLater P first plan

-- a plan with its end
abbrev pub with_end : Project → Option (List Placing) → Option Plan
with_end P (Some s) = Some (record { duration = end_of P (entries s); places = s })
with_end P None = None

-- a plan of the project from so many tries, with its end; or that they made none
pub record IsPlanned (P : Project) (tries : ℕ) (told : Option Plan) : Type 0 where
  pub plan : Option (List Placing)
  pub is_plan : IsPlanFrom P tries plan
  pub is_told : told ≡ with_end P plan

-- what a search begins with: the first plan, as it is, where nothing is tried; and the plan from so many tries
pub record IsStart (P : Project) (tries : ℕ) (plan : Option (List Placing)) : Type 0 where
  pub untried : tries ≡ 0 → IsFirstPlan P plan
  pub tried : 1 ≤ tries → IsPlanFrom P tries plan
