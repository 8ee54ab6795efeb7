-- What `solve` told, where the answer is one to its words.
use Rattle.std.proofs.Common.{◌≡◌, ℕ, inl, refl, sym, ap, subst, ◌∙◌, Bool, true, false, List, Option, None, Some}
use Rattle.rcpsp_model.specs.Project.{Project}
use Rattle.rcpsp_model.specs.declared.parts.Verdict.{Verdict}
use Rattle.rcpsp_model.specs.declared.parts.Verdict.TheVariants.{Optimal, Infeasible, Limit}
use Rattle.sched_base.specs.Outside.{Gains}
use Rattle.proof_log.specs.declared.report.Report.{Report}
use Rattle.proof_log.specs.Text.{text}
use Rattle.log_truth.specs.Holds.{IsLimit}
use Rattle.scheduler.specs.declared.answer.Answer.{Answer}
use Rattle.scheduler.specs.declared.answer.Answer.TheVariants as answers
use Rattle.scheduler.specs.declared.answer.Outcome.TheVariants as outcomes
use Rattle.scheduler.specs.declared.status.Status.{Status}
use Rattle.scheduler.specs.declared.status.Status.TheVariants as statuses
use Rattle.plan_words.specs.Words.{IsSolve, project_name, workers_in, nodes_in, tries_in, prints_log}
use Rattle.scheduler.specs.Status.{IsSolved}
use Rattle.scheduler.specs.Solve.{IsSolution, IsNoLaterThanFirst, ExpandsNoTwins, HasAtMostFronts, with_log, IsSearched}
use Rattle.scheduler.specs.Answer.{IsOutcomeUnder, IsAnswerTo, IsNamed, Tells, WhereSolved, TellsAccepted, status_of, status_of_verdict, text_of}
use Rattle.plan_words.proofs.CommandWords.{bad_is_none, not_made, not_shown, not_solved, not_tried, planned_not_solved, bound_not_solved, verified_not_solved}
use Rattle.scheduler.proofs.StatusesTold.{asks_plan, asks_show, asks_bound}

-- the project under the name, of which this is the report
record IsReported (words : List (List ℕ)) (texts : Option (List (List ℕ × List ℕ))) (told : Report) : Type 0 where
  project : Project
  named : IsNamed words texts project
  searched : IsSearched project (workers_in words) (nodes_in words) (tries_in words) (prints_log words) told

reported : (words : List (List ℕ)) (texts : Option (List (List ℕ × List ℕ))) (told : Report) → IsOutcomeUnder words texts (project_name words) (outcomes.Solved told) → IsReported words texts told
reported words None told is = record { project = is.1.0; named = (is.0, is.1.1); searched = is.1.2.1 }
reported words (Some ts) told is = record { project = is.0; named = is.1; searched = is.2.1 }

-- what is true of each report of a search is true of what was told
abbrev Follows : List (List ℕ) → (Project → Report → Type 0) → Type 0
Follows words Q = (P : Project) (told : Report) (is : IsSearched P (workers_in words) (nodes_in words) (tries_in words) (prints_log words) told) → Q P is.whole

pub verdict_with_log : (log : Bool) (report : Report) → (with_log log report).verdict ≡ report.verdict
verdict_with_log true report = refl
verdict_with_log false report = refl

tells : (words : List (List ℕ)) (texts : Option (List (List ℕ × List ℕ))) (answer : Answer) (status : Status) (before now : Option (List ℕ)) (Q : Project → Report → Type 0) →
    IsAnswerTo words texts answer → status ≡ status_of answer → Gains before now (text_of answer) → Follows words Q → WhereSolved words texts status before now Q
tells words texts (answers.BadWords bad) status before now Q is e gains follows = λ solve solved. absurd (bad_is_none words bad.place is solve.0)
tells words texts (answers.Made printed) status before now Q is e gains follows = λ solve solved. absurd (not_made words (inl solve) is.0)
tells words texts (answers.Tried trial) status before now Q is e gains follows = λ solve solved. absurd (not_tried words (inl solve) is.0)
tells words texts (answers.Judged j) status before now Q is e gains follows = λ solve solved. absurd (not_solved words is.check solve)
tells words texts (answers.Verified j) status before now Q is e gains follows = λ solve solved. absurd (verified_not_solved words is.verify solve)
tells words texts (answers.Read (outcomes.Solved told)) status before now Q is e gains follows = λ solve solved.
    let r = reported words texts told is in
    let whole = r.searched.whole in
    record {
      project = r.project;
      named = r.named;
      report = whole;
      status_is = e ∙ ap status_of_verdict (ap (λ (report : Report). report.verdict) r.searched.is_told ∙ verdict_with_log (prints_log words) whole);
      gains = subst (λ (report : Report). Gains before now (text report)) r.searched.is_told gains;
      is_so = follows r.project told r.searched;
    }
tells words texts (answers.Read (outcomes.Shown printed)) status before now Q is e gains follows = λ solve solved. absurd (not_shown words solve (asks_show words texts (project_name words) (outcomes.Shown printed) is))
tells words texts (answers.Read (outcomes.Planned plan)) status before now Q is e gains follows = λ solve solved. absurd (planned_not_solved words (asks_plan words texts (project_name words) plan is) solve)
tells words texts (answers.Read (outcomes.Bounded printed)) status before now Q is e gains follows = λ solve solved. absurd (bound_not_solved words (asks_bound words texts (project_name words) (outcomes.Bounded printed) is) solve)
tells words texts (answers.Read (outcomes.BadProject f)) status before now Q is e gains follows = λ solve solved. absurd (subst IsSolved e solved)

pub tells_solution : (words : List (List ℕ)) (texts : Option (List (List ℕ × List ℕ))) (answer : Answer) (status : Status) (before now : Option (List ℕ)) → IsAnswerTo words texts answer →
    status ≡ status_of answer → Gains before now (text_of answer) → WhereSolved words texts status before now (λ P report. IsSolution P (workers_in words) (nodes_in words) (tries_in words) report)
tells_solution words texts answer status before now is e gains = tells words texts answer status before now _ is e gains (λ P told s. s.solution)

pub tells_no_later : (words : List (List ℕ)) (texts : Option (List (List ℕ × List ℕ))) (answer : Answer) (status : Status) (before now : Option (List ℕ)) → IsAnswerTo words texts answer →
    status ≡ status_of answer → Gains before now (text_of answer) → WhereSolved words texts status before now (λ P report. IsNoLaterThanFirst P report.verdict)
tells_no_later words texts answer status before now is e gains = tells words texts answer status before now (λ P report. IsNoLaterThanFirst P report.verdict) is e gains (λ P told s. s.no_later)

pub tells_no_twins : (words : List (List ℕ)) (texts : Option (List (List ℕ × List ℕ))) (answer : Answer) (status : Status) (before now : Option (List ℕ)) → IsAnswerTo words texts answer →
    status ≡ status_of answer → Gains before now (text_of answer) → workers_in words ≡ 1 → WhereSolved words texts status before now ExpandsNoTwins
tells_no_twins words texts answer status before now is e gains one = tells words texts answer status before now ExpandsNoTwins is e gains (λ P told s. s.no_twins one)

pub limit_is : (verdict : Verdict) → status_of_verdict verdict ≡ statuses.Limit → IsLimit verdict
limit_is (Optimal d) e = absurd cc
limit_is Infeasible e = absurd cc
limit_is (Limit d b) e = tt

ends-told : (words : List (List ℕ)) (texts : Option (List (List ℕ × List ℕ))) (status : Status) (before now : Option (List ℕ)) →
    Tells words texts status before now (λ P report. HasAtMostFronts P (nodes_in words) → IsLimit report.verdict → ⊥) → Tells words texts status before now (λ P report. HasAtMostFronts P (nodes_in words) → status ≡ statuses.Limit → ⊥)
ends-told words texts status before now t = record {
  project = t.project;
  named = t.named;
  report = t.report;
  status_is = t.status_is;
  gains = t.gains;
  is_so = λ few limit. t.is_so few (limit_is t.report.verdict (sym t.status_is ∙ limit));
}

pub tells_ends : (words : List (List ℕ)) (texts : Option (List (List ℕ × List ℕ))) (answer : Answer) (status : Status) (before now : Option (List ℕ)) → IsAnswerTo words texts answer →
    status ≡ status_of answer → Gains before now (text_of answer) → WhereSolved words texts status before now (λ P report. HasAtMostFronts P (nodes_in words) → status ≡ statuses.Limit → ⊥)
tells_ends words texts answer status before now is e gains = λ solve solved.
    ends-told words texts status before now (tells words texts answer status before now (λ P report. HasAtMostFronts P (nodes_in words) → IsLimit report.verdict → ⊥) is e gains (λ P told s. s.ends) solve solved)

pub tells_accepted : (words : List (List ℕ)) (texts : Option (List (List ℕ × List ℕ))) (answer : Answer) (status : Status) (before now : Option (List ℕ)) → IsAnswerTo words texts answer →
    status ≡ status_of answer → Gains before now (text_of answer) → IsSolve words → IsSolved status → prints_log words ≡ true → TellsAccepted words texts before now
tells_accepted words texts answer status before now is e gains solve solved log =
    let t = tells_solution words texts answer status before now is e gains solve solved in
    record {
      project = t.project;
      named = t.named;
      bytes = text t.report;
      gains = subst (λ (b : Bool). Gains before now (text (with_log b t.report))) log t.gains;
      accepted = t.is_so.accepted;
    }
