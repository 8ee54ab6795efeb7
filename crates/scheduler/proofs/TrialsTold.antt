-- What `trial` told, where the answer is one to its words.
use Rattle.std.proofs.Common.{◌≡◌, ℕ, ◌++◌, inl, inr, arith, refl, sym, ap, subst, ◌∙◌, false, List, Option, None, Some}
use Rattle.std.proofs.lemmas.List.{append_cancel_left}
use Rattle.rcpsp_model.specs.declared.parts.Placing.{Placing}
use Rattle.rcpsp_model.specs.declared.parts.Verdict.{Verdict}
use Rattle.rcpsp_model.specs.declared.parts.Verdict.TheVariants.{Optimal, Infeasible, Limit}
use Rattle.rcpsp_model.specs.Project.{Project}
use Rattle.rcpsp_model.specs.Claim.{Claim}
use Rattle.sched_base.specs.Outside.{Gains}
use Rattle.project_gen.specs.Made.{made}
use Rattle.proof_log.specs.declared.report.Report.{Report}
use Rattle.scheduler.specs.declared.answer.Answer.{Answer}
use Rattle.scheduler.specs.declared.answer.Answer.TheVariants as answers
use Rattle.scheduler.specs.declared.answer.Trial.{Trial}
use Rattle.scheduler.specs.declared.status.Status.{Status}
use Rattle.scheduler.specs.declared.status.Status.TheVariants as statuses
use Rattle.plan_words.specs.Words.{IsTrial, project_name, seed_in, jobs_in, modes_in}
use Rattle.scheduler.specs.Status.{IsSolved}
use Rattle.scheduler.specs.Answer.{IsAnswerTo, IsTrialTo, Tries, status_of, status_of_verdict, text_of, text_of_trial, size_lines, verdict_lines}
use Rattle.scheduler.specs.Laws.{SameTrialLaw}
use Rattle.plan_words.proofs.CommandWords.{bad_is_none, make_not_tried, not_tried}
use Rattle.scheduler.proofs.StatusesTold.{asks_project, told_tried}
use Rattle.scheduler.proofs.ReportsTold.{verdict_with_log, limit_is}

tries-by : (words : List (List ℕ)) (trial : Trial) (status : Status) (before now : Option (List ℕ)) → IsTrialTo words trial → status ≡ status_of_verdict trial.verdict → Gains before now (text_of_trial trial) → Tries words status before now
tries-by words trial status before now is e gains =
    let own = is.1 in
    let s = own.searched.searched in
    let whole = s.whole in
    let same : trial.verdict ≡ whole.verdict = own.searched.verdict_is ∙ ap (λ (report : Report). report.verdict) s.is_told ∙ verdict_with_log false whole in
    let status_is : status ≡ status_of_verdict whole.verdict = e ∙ ap status_of_verdict same in
    record {
      report = whole;
      solution = s.solution;
      no_later = s.no_later;
      no_twins = s.no_twins;
      ends = λ few limit. s.ends few (limit_is whole.verdict (sym status_is ∙ limit));
      status_is = status_is;
      gains = subst (λ (v : Verdict). Gains before now (size_lines (jobs_in words) (modes_in words) ++ verdict_lines v)) same
          (subst (λ (m : ℕ). Gains before now (size_lines (jobs_in words) m ++ verdict_lines trial.verdict)) own.modes_is
          (subst (λ (j : ℕ). Gains before now (size_lines j trial.modes ++ verdict_lines trial.verdict)) own.jobs_is gains));
    }

pub tries : (words : List (List ℕ)) (texts : Option (List (List ℕ × List ℕ))) (answer : Answer) (status : Status) (before now : Option (List ℕ)) → IsAnswerTo words texts answer →
    status ≡ status_of answer → Gains before now (text_of answer) → IsTrial words → IsSolved status → Tries words status before now
tries words texts (answers.BadWords bad) status before now is e gains trial solved = absurd (bad_is_none words bad.place is trial.0)
tries words texts (answers.Made printed) status before now is e gains trial solved = absurd (make_not_tried words is.0 trial)
tries words texts (answers.Judged j) status before now is e gains trial solved = absurd (not_tried words (inr (inl is.check)) trial)
tries words texts (answers.Verified j) status before now is e gains trial solved = absurd (not_tried words (inr (inr (inr (inr (inr is.verify))))) trial)
tries words texts (answers.Tried t) status before now is e gains trial solved = tries-by words t status before now is e gains
tries words texts (answers.Read outcome) status before now is e gains trial solved = absurd (not_tried words (asks_project words texts (project_name words) outcome is) trial)

-- ---- two trials of one project

-- two verdicts that claim what is true of one project are the same, unless one is limit
one-verdict : (P : Project) (v w : Verdict) (s t : Option (List Placing)) → Claim P v s → Claim P w t → (status_of_verdict v ≡ statuses.Limit → ⊥) → (status_of_verdict w ≡ statuses.Limit → ⊥) → v ≡ w
one-verdict P (Optimal d) (Optimal e) (Some s) (Some t) c k n m =
    let low = c.1 t k.0.feasible in let high = k.1 s c.0.feasible in let there = c.0.end in let here = k.0.end in
    ap Optimal (let same : d ≡ e = omega arith in same)
one-verdict P (Optimal d) (Optimal e) None t c k n m = absurd c.0
one-verdict P (Optimal d) (Optimal e) (Some s) None c k n m = absurd k.0
one-verdict P (Optimal d) Infeasible None t c k n m = absurd c.0
one-verdict P (Optimal d) Infeasible (Some s) t c k n m = absurd (k.1 s c.0.feasible)
one-verdict P Infeasible (Optimal e) s None c k n m = absurd k.0
one-verdict P Infeasible (Optimal e) s (Some t) c k n m = absurd (c.1 t k.0.feasible)
one-verdict P Infeasible Infeasible s t c k n m = refl
one-verdict P (Limit d b) w s t c k n m = absurd (n refl)
one-verdict P (Optimal d) (Limit e b) s t c k n m = absurd (m refl)
one-verdict P Infeasible (Limit e b) s t c k n m = absurd (m refl)

made-same : (s t j k m n : ℕ) → s ≡ t → j ≡ k → m ≡ n → made s j m ≡ made t k n
made-same s t j k m n seed jobs modes = ap (λ (x : ℕ). made x j m) seed ∙ ap (λ (x : ℕ). made t x m) jobs ∙ ap (λ (x : ℕ). made t k x) modes

pub same_trial_law : SameTrialLaw
same_trial_law words others texts later one other held kept bytes written trial again seed jobs modes first second unlimited free =
    let a = tries words texts first.answer one (Some held) (Some (held ++ bytes)) first.is_answer first.status_is first.gains trial (told_tried words texts first.answer one first.is_answer first.status_is trial) in
    let b = tries others later second.answer other (Some kept) (Some (kept ++ written)) second.is_answer second.status_is second.gains again (told_tried others later second.answer other second.is_answer second.status_is again) in
    let P = made (seed_in others) (jobs_in others) (modes_in others) in
    let claim = subst (λ (Q : Project). Claim Q a.report.verdict a.report.best) (made-same (seed_in words) (seed_in others) (jobs_in words) (jobs_in others) (modes_in words) (modes_in others) seed jobs modes) a.solution.claim in
    let same = one-verdict P a.report.verdict b.report.verdict a.report.best b.report.best claim b.solution.claim (λ e. unlimited (a.status_is ∙ e)) (λ e. free (b.status_is ∙ e)) in
    append_cancel_left held bytes _ a.gains
    ∙ ap (λ (j : ℕ). size_lines j (modes_in words) ++ verdict_lines a.report.verdict) jobs
    ∙ ap (λ (m : ℕ). size_lines (jobs_in others) m ++ verdict_lines a.report.verdict) modes
    ∙ ap (λ (v : Verdict). size_lines (jobs_in others) (modes_in others) ++ verdict_lines v) same
    ∙ sym (append_cancel_left kept written _ b.gains)
