-- The lines of a report before its log lead on to the log.
use Rattle.std.proofs.Common.{◌≡◌, ℕ, ◌+◌, ◌<◌, inr, arith, refl, sym, ap, subst, ◌∙◌, append_assoc, length-append, List, [], ◌∷◌, ◌++◌, length, map, Bool, true, false, Some}
use Rattle.std.specs.Prelude.{◌==◌, if◌then◌else◌}
use Rattle.std.specs.List.{AllByRecursion}
use Rattle.std.proofs.lemmas.Bool.{eqb-true}
use Rattle.std.proofs.lemmas.Bool.Decides.{nat_tests}
use Rattle.std.proofs.lemmas.List.{append-nil}
use Rattle.rcpsp_model.specs.declared.parts.Verdict.{Verdict}
use Rattle.rcpsp_model.specs.declared.parts.Placing.{Placing}
use Rattle.rcpsp_model.specs.Project.{Project, IsMode, job_count}
use Rattle.rcpsp_model.specs.Schedule.{entries_from}
use Rattle.rcpsp_model.specs.Claim.{HasDuration}
use Rattle.proof_log.specs.declared.line.ReportLine.{ReportLine}
use Rattle.proof_log.specs.declared.line.ReportLine.TheVariants as texts
use Rattle.proof_log.specs.Line.{line_text, IsLine}
use Rattle.proof_log.specs.Report.{duration_of}
use Rattle.proof_log.proofs.WrittenParts.{jobs_from}
use Rattle.log_checker.specs.declared.stage.Stage.TheVariants as stages
use Rattle.log_checker.specs.Progress.{Progress, after_job, IsRightPlan}
use Rattle.log_checker.specs.Refusal.{Leads}
use Rattle.log_checker.proofs.LineSteps.{empty-is}
use Rattle.log_checker.proofs.TakenReports.{goes}

abbrev pub at_job : Verdict → List Placing → Progress
at_job v places = record { stage = stages.Job v; places = places; lines = [] }

abbrev pub at_flag : Verdict → List Placing → Progress
at_flag v places = record { stage = stages.Flag v; places = places; lines = [] }

not_same : (m n : ℕ) → m == n ≡ false → m ≡ n → ⊥
not_same m n h e = grind (arith, nat_tests)

-- the placings that are left are none where all have come
all-come : (P : Project) (all new qs : List Placing) → new ++ qs ≡ all → length all ≡ job_count P → length new ≡ job_count P → qs ≡ []
all-come P all new qs e whole come = empty-is qs (let sum = ap (λ (xs : List Placing). length xs) e in let parts = length-append new qs in omega arith)

new-all : (all new qs : List Placing) → new ++ qs ≡ all → qs ≡ [] → new ≡ all
new-all all new qs e none = sym (append-nil new) ∙ ap (λ (xs : List Placing). new ++ xs) (sym none) ∙ e

-- from the line of a job to behind those of all jobs
pub job-leads : (P : Project) (v : Verdict) (all ps qs : List Placing) (j : ℕ) (rest : List ReportLine) (r : Progress) → HasDuration P (duration_of v) (Some all) → length all ≡ job_count P → ps ++ qs ≡ all → j ≡ length ps + 1 → length ps < job_count P →
    AllByRecursion (λ e. IsMode P e.job e.mode) (entries_from j qs) → AllByRecursion IsLine (jobs_from j qs ++ rest) → Leads P (at_flag v all) (map line_text rest) r → Leads P (at_job v ps) (map line_text (jobs_from j qs ++ rest)) r
job-leads P v all ps [] j rest r has whole e number low modes lines later =
    let sum = ap (λ (xs : List Placing). length xs) e in let parts = length-append ps [] in absurd (omega arith)
job-leads P v all ps (q ∷ qs) j rest r has whole e number low modes lines later =
    let new = ps ++ q ∷ [] in
    let same : new ++ qs ≡ all = append_assoc ps (q ∷ []) qs ∙ e in
    let plan : IsRightPlan P v new = λ come. subst (λ (xs : List Placing). HasDuration P (duration_of v) (Some xs)) (sym (new-all all new qs same (all-come P all new qs same whole come))) has in
    let size = length-append ps (q ∷ []) in
    let again : length new < job_count P → Leads P (at_job v new) (map line_text (jobs_from (j + 1) qs ++ rest)) r = λ less. job-leads P v all new qs (j + 1) rest r has whole same (omega arith) less modes.1 lines.1 later in
    (after_job P v (at_job v ps) new, goes P (at_job v ps) (after_job P v (at_job v ps) new) (texts.Job j q.mode q.start) refl lines.0 (inr (number, inr (modes.0, inr (plan, refl)))), at_ again (length new == job_count P) refl)
  where
    at_ : (length (ps ++ q ∷ []) < job_count P → Leads P (at_job v (ps ++ q ∷ [])) (map line_text (jobs_from (j + 1) qs ++ rest)) r) → (b : Bool) → length (ps ++ q ∷ []) == job_count P ≡ b →
        Leads P (record { stage = if b then stages.Flag v else stages.Job v; places = ps ++ q ∷ []; lines = [] }) (map line_text (jobs_from (j + 1) qs ++ rest)) r
    at_ again true h =
        let new = ps ++ q ∷ [] in
        let same : new ++ qs ≡ all = append_assoc ps (q ∷ []) qs ∙ e in
        let none = all-come P all new qs same whole (eqb-true (length new) (job_count P) h) in
        subst (λ (xs : List Placing). Leads P (at_flag v new) (map line_text (jobs_from (j + 1) xs ++ rest)) r) (sym none)
        (subst (λ (xs : List Placing). Leads P (at_flag v xs) (map line_text rest) r) (sym (new-all all new qs same none)) later)
    at_ again false h =
        let new = ps ++ q ∷ [] in
        let same : new ++ qs ≡ all = append_assoc ps (q ∷ []) qs ∙ e in
        let sum = ap (λ (xs : List Placing). length xs) same in
        let parts = length-append new qs in
        let less : length new < job_count P = omega (arith, not_same (length new) (job_count P) h) in
        again less
