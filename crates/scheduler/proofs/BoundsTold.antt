-- What `bound` and `verify` told, where the answer is one to their words.
use Rattle.std.proofs.Common.{◌≡◌, ℕ, inl, inr, refl, sym, subst, ◌∙◌, List, Option, None, Some}
use Rattle.std.specs.Prelude.{Result, Ok, Err}
use Rattle.sched_base.specs.Outside.{Gains}
use Rattle.bound_checker.specs.declared.checker.BoundRefusal.{BoundRefusal}
use Rattle.bound_checker.specs.Judged.{AcceptsBound}
use Rattle.scheduler.specs.declared.answer.Answer.{Answer}
use Rattle.scheduler.specs.declared.answer.Answer.TheVariants as answers
use Rattle.scheduler.specs.declared.answer.Outcome.TheVariants as outcomes
use Rattle.scheduler.specs.declared.status.Status.{Status}
use Rattle.scheduler.specs.declared.status.Status.TheVariants as statuses
use Rattle.plan_words.specs.Words.{IsBound, IsVerify, project_name}
use Rattle.scheduler.specs.Status.{IsServed}
use Rattle.scheduler.specs.Answer.{IsOutcomeUnder, IsVerifiedTo, IsAnswerTo, IsAccepted, TellsBound, Verifies, status_of, status_of_bound_judgement, text_of, text_of_bound_judgement}
use Rattle.plan_words.proofs.CommandWords.{bad_is_none, not_made, not_tried, bound_not_solved, bound_not_judged, bound_not_shown, bound_not_planned, verified_not_solved, verified_not_judged, verified_not_shown, verified_not_planned, verified_not_bound}
use Rattle.scheduler.proofs.StatusesTold.{asks_solve, asks_plan, asks_show, asks_bound}

-- ---- `bound`

bounded-by : (words : List (List ℕ)) (texts : Option (List (List ℕ × List ℕ))) (status : Status) (before now : Option (List ℕ)) (printed : _) → IsOutcomeUnder words texts (project_name words) (outcomes.Bounded printed) →
    status ≡ statuses.Done → Gains before now printed.items → TellsBound words texts status before now
bounded-by words None status before now printed is e gains = record { project = is.1.0; named = (is.0, is.1.1); printed = printed.items; text = is.1.3; status_is = e; gains = gains }
bounded-by words (Some ts) status before now printed is e gains = record { project = is.0; named = is.1; printed = printed.items; text = is.3; status_is = e; gains = gains }

pub tells_bound : (words : List (List ℕ)) (texts : Option (List (List ℕ × List ℕ))) (answer : Answer) (status : Status) (before now : Option (List ℕ)) → IsAnswerTo words texts answer →
    status ≡ status_of answer → Gains before now (text_of answer) → IsBound words → IsServed status → TellsBound words texts status before now
tells_bound words texts (answers.BadWords bad) status before now is e gains bound served = absurd (bad_is_none words bad.place is bound.0)
tells_bound words texts (answers.Made printed) status before now is e gains bound served = absurd (not_made words (inr (inr (inr (inr (inl bound))))) is.0)
tells_bound words texts (answers.Tried trial) status before now is e gains bound served = absurd (not_tried words (inr (inr (inr (inr (inl bound))))) is.0)
tells_bound words texts (answers.Judged j) status before now is e gains bound served = absurd (bound_not_judged words bound is.check)
tells_bound words texts (answers.Verified j) status before now is e gains bound served = absurd (verified_not_bound words is.verify bound)
tells_bound words texts (answers.Read (outcomes.Solved report)) status before now is e gains bound served = absurd (bound_not_solved words bound (asks_solve words texts (project_name words) report is))
tells_bound words texts (answers.Read (outcomes.Planned plan)) status before now is e gains bound served = absurd (bound_not_planned words bound (asks_plan words texts (project_name words) plan is))
tells_bound words texts (answers.Read (outcomes.Shown printed)) status before now is e gains bound served = absurd (bound_not_shown words bound (asks_show words texts (project_name words) (outcomes.Shown printed) is))
tells_bound words texts (answers.Read (outcomes.Bounded printed)) status before now is e gains bound served = bounded-by words texts status before now printed is e gains
tells_bound words texts (answers.Read (outcomes.BadProject f)) status before now is e gains bound served = absurd (subst IsServed e served)

-- ---- `verify`

same-bound : (b c : ℕ) → ◌≡◌ {A = Result ℕ BoundRefusal} (Ok b) (Ok c) → b ≡ c
same-bound b c e = cc

verifies-by : (words : List (List ℕ)) (texts : Option (List (List ℕ × List ℕ))) (judgement : Result ℕ BoundRefusal) (status : Status) (before now : Option (List ℕ)) → IsVerifiedTo words texts judgement →
    status ≡ status_of_bound_judgement judgement → Gains before now (text_of_bound_judgement judgement) → Verifies words texts status before now
verifies-by words texts (Ok b) status before now is e gains =
    let j = is.judged.judged in
    let own : AcceptsBound is.project is.judged.text b = (j.accepted b).0 refl in
    record {
      project = is.project;
      named = is.named;
      text = is.judged.text;
      is_text = is.judged.is_text;
      accepts = (λ _. (b, own), λ _. e);
      refuses = (λ s. absurd (let other : statuses.Done ≡ statuses.ReportRefused = sym e ∙ s in cc), λ no. absurd (no (b, own)));
      sound = j.sound;
      tells = λ c accepted. subst (λ (n : ℕ). Gains before now (text_of_bound_judgement (Ok n))) (same-bound b c ((j.accepted c).1 accepted)) gains;
      tells_refusal = λ no. absurd (no (b, own));
    }
verifies-by words texts (Err refused) status before now is e gains =
    let j = is.judged.judged in
    let no : IsAccepted is.project is.judged.text → ⊥ = λ accepted. let other : ◌≡◌ {A = Result ℕ BoundRefusal} (Err refused) (Ok accepted.0) = (j.accepted accepted.0).1 accepted.1 in cc in
    record {
      project = is.project;
      named = is.named;
      text = is.judged.text;
      is_text = is.judged.is_text;
      accepts = (λ s. absurd (let other : statuses.ReportRefused ≡ statuses.Done = sym e ∙ s in cc), λ accepted. absurd (no accepted));
      refuses = (λ _. no, λ _. e);
      sound = j.sound;
      tells = λ c accepted. absurd (no (c, accepted));
      tells_refusal = λ _. (refused, (j.refused refused).0 refl, gains);
    }

pub verifies : (words : List (List ℕ)) (texts : Option (List (List ℕ × List ℕ))) (answer : Answer) (status : Status) (before now : Option (List ℕ)) → IsAnswerTo words texts answer →
    status ≡ status_of answer → Gains before now (text_of answer) → IsVerify words → IsServed status → Verifies words texts status before now
verifies words texts (answers.BadWords bad) status before now is e gains verify served = absurd (bad_is_none words bad.place is verify.0)
verifies words texts (answers.Made printed) status before now is e gains verify served = absurd (not_made words (inr (inr (inr (inr (inr verify))))) is.0)
verifies words texts (answers.Tried trial) status before now is e gains verify served = absurd (not_tried words (inr (inr (inr (inr (inr verify))))) is.0)
verifies words texts (answers.Judged j) status before now is e gains verify served = absurd (verified_not_judged words verify is.check)
verifies words texts (answers.Verified j) status before now is e gains verify served = verifies-by words texts j status before now is e gains
verifies words texts (answers.Read (outcomes.Solved report)) status before now is e gains verify served = absurd (verified_not_solved words verify (asks_solve words texts (project_name words) report is))
verifies words texts (answers.Read (outcomes.Planned plan)) status before now is e gains verify served = absurd (verified_not_planned words verify (asks_plan words texts (project_name words) plan is))
verifies words texts (answers.Read (outcomes.Shown printed)) status before now is e gains verify served = absurd (verified_not_shown words verify (asks_show words texts (project_name words) (outcomes.Shown printed) is))
verifies words texts (answers.Read (outcomes.Bounded printed)) status before now is e gains verify served = absurd (verified_not_bound words verify (asks_bound words texts (project_name words) (outcomes.Bounded printed) is))
verifies words texts (answers.Read (outcomes.BadProject f)) status before now is e gains verify served = absurd (subst IsServed e served)
