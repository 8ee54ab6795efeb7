-- What `plan` told, where the answer is one to its words.
use Rattle.std.proofs.Common.{◌≡◌, ℕ, ◌↔◌, inl, inr, refl, sym, ap, subst, ◌∙◌, List, Option, None, Some}
use Rattle.std.specs.Prelude.{IsSome}
use Rattle.rcpsp_model.specs.declared.parts.Placing.{Placing}
use Rattle.rcpsp_model.specs.Project.{Project}
use Rattle.rcpsp_model.specs.Plan.{IsFirstPlan}
use Rattle.sched_base.specs.Outside.{Gains}
use Rattle.scheduler.specs.declared.answer.Answer.{Answer}
use Rattle.scheduler.specs.declared.answer.Answer.TheVariants as answers
use Rattle.scheduler.specs.declared.answer.Outcome.TheVariants as outcomes
use Rattle.scheduler.specs.declared.planning.Plan.{Plan}
use Rattle.scheduler.specs.declared.status.Status.{Status}
use Rattle.scheduler.specs.declared.status.Status.TheVariants as statuses
use Rattle.plan_words.specs.Words.{IsPlan, project_name, tries_in}
use Rattle.scheduler.specs.Status.{IsSolved}
use Rattle.scheduler.specs.Planning.{IsJustified, IsPlanFrom, with_end, IsPlanned}
use Rattle.scheduler.specs.Answer.{IsOutcomeUnder, IsAnswerTo, IsNamed, HasFirstPlan, TellsPlan, status_of, status_of_plan, text_of, text_of_plan}
use Rattle.plan_words.proofs.CommandWords.{bad_is_none, not_made, not_tried, planned_not_judged, planned_not_shown, planned_not_solved, bound_not_planned, verified_not_planned}
use Rattle.scheduler.proofs.StatusesTold.{asks_solve, asks_show, asks_bound}

-- the project under the name, of which this is the plan
record IsPlannedUnder (words : List (List ℕ)) (texts : Option (List (List ℕ × List ℕ))) (told : Option Plan) : Type 0 where
  project : Project
  named : IsNamed words texts project
  planned : IsPlanned project (tries_in words) told

planned-under : (words : List (List ℕ)) (texts : Option (List (List ℕ × List ℕ))) (told : Option Plan) → IsOutcomeUnder words texts (project_name words) (outcomes.Planned told) → IsPlannedUnder words texts told
planned-under words None told is = record { project = is.1.0; named = (is.0, is.1.1); planned = is.1.3 }
planned-under words (Some ts) told is = record { project = is.0; named = is.1; planned = is.3 }

nothing-there : IsSome {T = List Placing} None → ⊥
nothing-there is = cc

done-exactly : (P : Project) (plan : Option (List Placing)) → (status_of_plan (with_end P plan) ≡ statuses.Done) ↔ IsSome plan
done-exactly P None = (λ e. absurd (let other : statuses.Limit ≡ statuses.Done = e in cc), λ some. absurd (nothing-there some))
done-exactly P (Some s) = (λ _. refl, λ _. refl)

none-exactly : (P : Project) (plan : Option (List Placing)) → (status_of_plan (with_end P plan) ≡ statuses.Limit) ↔ (plan ≡ None)
none-exactly P None = (λ _. refl, λ _. refl)
none-exactly P (Some s) = (λ e. absurd (let other : statuses.Done ≡ statuses.Limit = e in cc), λ e. absurd cc)

-- there is a first plan, or there is none
two-plans : (P : Project) (s : List Placing) → IsFirstPlan P (Some s) → IsFirstPlan P None → ⊥
two-plans P s (inl shortest) none = none.0 s shortest.0
two-plans P s (inr cheapest) none = none.1 s cheapest.0

some-exactly : (P : Project) (first plan : Option (List Placing)) → IsFirstPlan P first → IsJustified P first plan → IsSome plan ↔ HasFirstPlan P
some-exactly P None None is j = (λ some. absurd (nothing-there some), λ has. absurd (two-plans P has.0 has.1 is))
some-exactly P None (Some r) is j = absurd j
some-exactly P (Some s) None is j = absurd j
some-exactly P (Some s) (Some r) is j = (λ _. (s, is), λ _. refl)

no-plan-exactly : (P : Project) (first plan : Option (List Placing)) → IsFirstPlan P first → IsJustified P first plan → (plan ≡ None) ↔ IsFirstPlan P None
no-plan-exactly P None None is j = (λ _. is, λ _. refl)
no-plan-exactly P None (Some r) is j = absurd j
no-plan-exactly P (Some s) None is j = absurd j
no-plan-exactly P (Some s) (Some r) is j = (λ e. absurd cc, λ none. absurd (two-plans P s is none))

both-ways : {A B C : Type 0} → A ↔ B → B ↔ C → A ↔ C
both-ways first second = (λ a. second.0 (first.0 a), λ c. first.1 (second.1 c))

-- without tries the plan is the first plan, justified
own-justified : (P : Project) (tries : ℕ) (plan : Option (List Placing)) (is : IsPlanFrom P tries plan) → tries ≡ 0 → IsJustified P is.first plan
own-justified P tries plan is untried = subst (λ (o : Option (List Placing)). IsJustified P is.first o) (sym (is.untried untried)) is.is_justified

planned-by : (words : List (List ℕ)) (texts : Option (List (List ℕ × List ℕ))) (told : Option Plan) (status : Status) (before now : Option (List ℕ)) → IsPlannedUnder words texts told →
    status ≡ status_of_plan told → Gains before now (text_of_plan told) → TellsPlan words texts status before now
planned-by words texts told status before now under e gains =
    let P = under.project in
    let planned = under.planned in
    let plan = planned.plan in
    let is = planned.is_plan in
    let status_is : status ≡ status_of_plan (with_end P plan) = e ∙ ap status_of_plan planned.is_told in
    let some : (status ≡ statuses.Done) ↔ IsSome plan = subst (λ (s : Status). (s ≡ statuses.Done) ↔ IsSome plan) (sym status_is) (done-exactly P plan) in
    let none : (status ≡ statuses.Limit) ↔ (plan ≡ None) = subst (λ (s : Status). (s ≡ statuses.Limit) ↔ (plan ≡ None)) (sym status_is) (none-exactly P plan) in
    record {
      project = P;
      named = under.named;
      plan = plan;
      is_plan = is;
      gains = subst (λ (o : Option Plan). Gains before now (text_of_plan o)) planned.is_told gains;
      some = some;
      none = none;
      untried = λ zero. both-ways some (some-exactly P is.first plan is.is_first (own-justified P (tries_in words) plan is zero));
      untried_none = λ zero. both-ways none (no-plan-exactly P is.first plan is.is_first (own-justified P (tries_in words) plan is zero));
    }

pub tells_plan : (words : List (List ℕ)) (texts : Option (List (List ℕ × List ℕ))) (answer : Answer) (status : Status) (before now : Option (List ℕ)) → IsAnswerTo words texts answer →
    status ≡ status_of answer → Gains before now (text_of answer) → IsPlan words → IsSolved status → TellsPlan words texts status before now
tells_plan words texts (answers.BadWords bad) status before now is e gains plan solved = absurd (bad_is_none words bad.place is plan.0)
tells_plan words texts (answers.Made printed) status before now is e gains plan solved = absurd (not_made words (inr (inr (inr (inl plan)))) is.0)
tells_plan words texts (answers.Tried trial) status before now is e gains plan solved = absurd (not_tried words (inr (inr (inr (inl plan)))) is.0)
tells_plan words texts (answers.Judged j) status before now is e gains plan solved = absurd (planned_not_judged words plan is.check)
tells_plan words texts (answers.Verified j) status before now is e gains plan solved = absurd (verified_not_planned words is.verify plan)
tells_plan words texts (answers.Read (outcomes.Solved report)) status before now is e gains plan solved = absurd (planned_not_solved words plan (asks_solve words texts (project_name words) report is))
tells_plan words texts (answers.Read (outcomes.Planned told)) status before now is e gains plan solved = planned-by words texts told status before now (planned-under words texts told is) e gains
tells_plan words texts (answers.Read (outcomes.Shown printed)) status before now is e gains plan solved = absurd (planned_not_shown words plan (asks_show words texts (project_name words) (outcomes.Shown printed) is))
tells_plan words texts (answers.Read (outcomes.Bounded printed)) status before now is e gains plan solved = absurd (bound_not_planned words (asks_bound words texts (project_name words) (outcomes.Bounded printed) is) plan)
tells_plan words texts (answers.Read (outcomes.BadProject f)) status before now is e gains plan solved = absurd (subst IsSolved e solved)
