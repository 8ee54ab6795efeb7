-- What `check` told, where the answer is one to its words.
use Rattle.std.proofs.Common.{◌≡◌, ℕ, ◌++◌, inl, inr, refl, sym, subst, ◌∙◌, List, Option, Some}
use Rattle.std.specs.Prelude.{Ok, Err, Result}
use Rattle.std.proofs.lemmas.List.{append_cancel_left}
use Rattle.rcpsp_model.specs.declared.parts.Verdict.{Verdict}
use Rattle.rcpsp_model.specs.Project.{Project}
use Rattle.sched_base.specs.Outside.{Gains, text_under}
use Rattle.psplib_layout.proofs.OneContent.{one_project}
use Rattle.psplib_layout.specs.Text.{Reads}
use Rattle.psplib_reader.proofs.OneReading.{never_both}
use Rattle.log_truth.specs.Holds.{Accepts}
use Rattle.log_checker.specs.declared.refused.Refused.{Refused}
use Rattle.log_checker.specs.declared.refused.Refused.TheVariants.{Report as broken}
use Rattle.log_checker.specs.Checker.{AcceptsAs}
use Rattle.scheduler.specs.declared.answer.Answer.{Answer}
use Rattle.scheduler.specs.declared.answer.Answer.TheVariants as answers
use Rattle.scheduler.specs.declared.answer.Judgement.{Judgement}
use Rattle.scheduler.specs.declared.answer.Judgement.TheVariants as judgements
use Rattle.scheduler.specs.declared.answer.Outcome.TheVariants as outcomes
use Rattle.scheduler.specs.declared.status.Status.{Status}
use Rattle.scheduler.specs.declared.status.Status.TheVariants as statuses
use Rattle.plan_words.specs.Words.{IsCheck, project_name, report_name}
use Rattle.scheduler.specs.Status.{IsServed}
use Rattle.scheduler.specs.Answer.{IsAnswerTo, IsJudgementTo, Judges, status_of, status_of_judgement, text_of, text_of_judgement}
use Rattle.scheduler.specs.Laws.{OwnReportLaw}
use Rattle.plan_words.proofs.CommandWords.{bad_is_none, not_made, not_solved, judged_not_shown, not_tried, planned_not_judged, bound_not_judged, verified_not_judged}
use Rattle.scheduler.proofs.StatusesTold.{asks_solve, asks_plan, asks_show, asks_bound}
use Rattle.scheduler.proofs.ReportsTold.{tells_accepted}

as_its : (P : Project) (bytes : List ℕ) (accepted : Accepts P bytes) → AcceptsAs P bytes accepted.report.verdict
as_its P bytes accepted = record { accepts = accepted; is_its = refl }

same_verdict : (v w : Verdict) → ◌≡◌ {A = Result Verdict Refused} (Ok v) (Ok w) → v ≡ w
same_verdict v w e = cc

judges-by : (words : List (List ℕ)) (texts : Option (List (List ℕ × List ℕ))) (judgement : Judgement) (status : Status) (before now : Option (List ℕ)) → IsJudgementTo words texts judgement →
    status ≡ status_of_judgement judgement → Gains before now (text_of_judgement judgement) → Judges words texts status before now
judges-by words texts (judgements.Accepted v) status before now is e gains =
    let j = is.judged.judged in
    let own : AcceptsAs is.project is.judged.report v = (j.accepted v).0 refl in
    record {
      project = is.project;
      named = is.named;
      report = is.judged.report;
      is_report = is.judged.is_report;
      accepts = (λ _. own.accepts, λ _. e);
      refuses = (λ s. absurd (let other : statuses.Done ≡ statuses.ReportRefused = sym e ∙ s in cc), λ no. absurd (no own.accepts));
      claim = j.claim;
      tells = λ accepted. subst (λ (w : Verdict). Gains before now (text_of_judgement (judgements.Accepted w))) (same_verdict v accepted.report.verdict ((j.accepted accepted.report.verdict).1 (as_its is.project is.judged.report accepted))) gains;
      tells_refusal = λ no. absurd (no own.accepts);
    }
judges-by words texts (judgements.Refused line number) status before now is e gains =
    let j = is.judged.judged in
    let no : Accepts is.project is.judged.report → ⊥ = λ accepted. let other : ◌≡◌ {A = Result Verdict Refused} (Err (broken line number)) (Ok accepted.report.verdict) = (j.accepted accepted.report.verdict).1 (as_its is.project is.judged.report accepted) in cc in
    let first = (j.refused line number).0 refl in
    record {
      project = is.project;
      named = is.named;
      report = is.judged.report;
      is_report = is.judged.is_report;
      accepts = (λ s. absurd (let other : statuses.ReportRefused ≡ statuses.Done = sym e ∙ s in cc), λ accepted. absurd (no accepted));
      refuses = (λ _. no, λ _. e);
      claim = j.claim;
      tells = λ accepted. absurd (no accepted);
      tells_refusal = λ _. record {
        number = line;
        reason = first.0;
        first = first.2;
        gains = subst (λ (n : ℕ). Gains before now (text_of_judgement (judgements.Refused line n))) first.1 gains;
      };
    }

pub judges : (words : List (List ℕ)) (texts : Option (List (List ℕ × List ℕ))) (answer : Answer) (status : Status) (before now : Option (List ℕ)) → IsAnswerTo words texts answer →
    status ≡ status_of answer → Gains before now (text_of answer) → IsCheck words → IsServed status → Judges words texts status before now
judges words texts (answers.BadWords bad) status before now is e gains check served = absurd (bad_is_none words bad.place is check.0)
judges words texts (answers.Made printed) status before now is e gains check served = absurd (not_made words (inr (inl check)) is.0)
judges words texts (answers.Tried trial) status before now is e gains check served = absurd (not_tried words (inr (inl check)) is.0)
judges words texts (answers.Judged j) status before now is e gains check served = judges-by words texts j status before now is e gains
judges words texts (answers.Verified j) status before now is e gains check served = absurd (verified_not_judged words is.verify check)
judges words texts (answers.Read (outcomes.Solved report)) status before now is e gains check served = absurd (not_solved words check (asks_solve words texts (project_name words) report is))
judges words texts (answers.Read (outcomes.Planned plan)) status before now is e gains check served = absurd (planned_not_judged words (asks_plan words texts (project_name words) plan is) check)
judges words texts (answers.Read (outcomes.Shown printed)) status before now is e gains check served = absurd (judged_not_shown words check (asks_show words texts (project_name words) (outcomes.Shown printed) is))
judges words texts (answers.Read (outcomes.Bounded printed)) status before now is e gains check served = absurd (bound_not_judged words (asks_bound words texts (project_name words) (outcomes.Bounded printed) is) check)
judges words texts (answers.Read (outcomes.BadProject f)) status before now is e gains check served = absurd (subst IsServed e served)

-- ---- what `solve` told is accepted by `check`

accepted-done : (checks : List (List ℕ)) (later : List (List ℕ × List ℕ)) (P : Project) (answer : Answer) → IsCheck checks → IsAnswerTo checks (Some later) answer →
    Reads (text_under later (project_name checks)) P → Accepts P (text_under later (report_name checks)) → status_of answer ≡ statuses.Done
accepted-done checks later P (answers.BadWords bad) check is reads accepts = absurd (bad_is_none checks bad.place is check.0)
accepted-done checks later P (answers.Made printed) check is reads accepts = absurd (not_made checks (inr (inl check)) is.0)
accepted-done checks later P (answers.Tried trial) check is reads accepts = absurd (not_tried checks (inr (inl check)) is.0)
accepted-done checks later P (answers.Judged (judgements.Accepted v)) check is reads accepts = refl
accepted-done checks later P (answers.Judged (judgements.Refused line number)) check is reads accepts =
    let same : P ≡ is.project = one_project (text_under later (project_name checks)) P is.project reads is.named in
    let own : Accepts is.project is.judged.report = subst (λ (bytes : List ℕ). Accepts is.project bytes) (sym is.judged.is_report) (subst (λ (Q : Project). Accepts Q (text_under later (report_name checks))) same accepts) in
    let other : ◌≡◌ {A = Result Verdict Refused} (Err (broken line number)) (Ok own.report.verdict) = (is.judged.judged.accepted own.report.verdict).1 (as_its is.project is.judged.report own) in
    absurd cc
accepted-done checks later P (answers.Verified j) check is reads accepts = absurd (verified_not_judged checks is.verify check)
accepted-done checks later P (answers.Read (outcomes.Solved report)) check is reads accepts = absurd (not_solved checks check is.2.0)
accepted-done checks later P (answers.Read (outcomes.Planned plan)) check is reads accepts = absurd (planned_not_judged checks is.2 check)
accepted-done checks later P (answers.Read (outcomes.Shown printed)) check is reads accepts = absurd (judged_not_shown checks check is.2)
accepted-done checks later P (answers.Read (outcomes.Bounded printed)) check is reads accepts = absurd (bound_not_judged checks is.2 check)
accepted-done checks later P (answers.Read (outcomes.BadProject f)) check is reads accepts = absurd (never_both (text_under later (project_name checks)) P f reads is.1)

pub own_report_law : OwnReportLaw
own_report_law words checks texts later solved checked held bytes before now solve log is_solved first check same_project same_report second =
    let t = tells_accepted words (Some texts) first.answer solved (Some held) (Some (held ++ bytes)) first.is_answer first.status_is first.gains solve is_solved log in
    let written : bytes ≡ t.bytes = append_cancel_left held bytes t.bytes t.gains in
    let reads = subst (λ (text : List ℕ). Reads text t.project) (sym same_project) t.named in
    let accepts = subst (λ (text : List ℕ). Accepts t.project text) (sym (same_report ∙ written)) t.accepted in
    second.status_is ∙ accepted-done checks later t.project second.answer check second.is_answer reads accepts
