-- A report that breaks no rule has few lines: the number of a line has room.
use Rattle.std.proofs.Common.{◌≡◌, ℕ, ◌+◌, ◌<◌, ◌≤◌, inl, inr, arith, refl, sym, ap, subst, List, [], ◌∷◌, ◌++◌, length, length-append, Bool, true, false, Option, Some, None}
use Rattle.std.specs.Prelude.{◌==◌, Ok, Err, Result, is_some, if◌then◌else◌}
use Rattle.std.proofs.lemmas.Bool.{cases_lt}
use Rattle.rcpsp_model.specs.declared.parts.Verdict.{Verdict}
use Rattle.rcpsp_model.specs.Project.{Project, IsWithinLimits, job_count}
use Rattle.proof_log.specs.declared.line.ReportLine.{ReportLine}
use Rattle.proof_log.specs.declared.line.ReportLine.TheVariants as texts
use Rattle.proof_log.specs.declared.report.LogLine.{LogLine}
use Rattle.proof_log.specs.Report.{duration_of}
use Rattle.log_truth.specs.Log.{Branch, below}
use Rattle.log_truth.specs.Refusal.{Wants}
use Rattle.log_truth.proofs.NextLines.{next_law}
use Rattle.log_truth.proofs.FewLines.{room_law}
use Rattle.log_checker.specs.declared.reason.Reason.{Reason}
use Rattle.log_checker.specs.declared.reason.Reason.TheVariants.{BadVerdict}
use Rattle.log_checker.specs.declared.stage.Kind.{Kind}
use Rattle.log_checker.specs.declared.stage.Stage.{Stage}
use Rattle.log_checker.specs.declared.stage.Stage.TheVariants as stages
use Rattle.log_checker.specs.Progress.{Progress, Outcome, start, at, moved, title_stage, kind_stage, allows_duration, duration_stage, verdict_by, verdict_stage, lower_stage, flag_stage, end_stage, placed, after_job, IsJobStep, IsJudgedStep, IsWantedStep, IsLineStep, IsStep}
use Rattle.log_checker.specs.Refusal.{Leads}
use Rattle.log_checker.proofs.CourseSteps.{no-mode}

-- how far a stage is
rank : Stage → ℕ
rank stages.Title = 0
rank stages.Kind = 1
rank (stages.Duration k) = 2
rank (stages.Lower k d) = 3
rank (stages.Job v) = 4
rank (stages.Flag v) = 5
rank (stages.Line v) = 6
rank (stages.Ended v) = 7

-- each line adds to this
abbrev weight : Progress → ℕ
weight p = rank p.stage + length p.places + length p.lines

pub record Fits (P : Project) (p : Progress) : Type 0 where
  pub places : length p.places ≤ 128
  pub lines : length p.lines ≤ 51200001

abbrev Above : ℕ → Result Stage Reason → Type 0
Above n (Ok s) = n < rank s
Above n (Err r) = Unit {0}

title-above : (o : Option ReportLine) → Above 0 (title_stage o)
unfolding rank
title-above (Some texts.Title) = omega arith
title-above _ = tt

kind-above : (o : Option ReportLine) → Above 1 (kind_stage o)
unfolding rank
kind-above (Some texts.Optimal) = omega arith
kind-above (Some texts.Infeasible) = omega arith
kind-above (Some texts.Limit) = omega arith
kind-above _ = tt

duration-above : (k : Kind) (o : Option ReportLine) → Above 2 (duration_stage k o)
unfolding rank
duration-above k (Some (texts.Duration d)) = elim (allows_duration k d) as (λ b. Above 2 (if b then Ok (stages.Lower k d) else Err BadVerdict)) [ true ↦ omega arith | false ↦ tt ]
duration-above k _ = tt

verdict-above : (o : Option Verdict) → Above 3 (verdict_stage o)
unfolding rank
verdict-above None = tt
verdict-above (Some v) = elim (is_some (duration_of v)) as (λ b. Above 3 (if b then Ok (stages.Job v) else Ok (stages.Flag v))) [ true ↦ omega arith | false ↦ omega arith ]

lower-above : (k : Kind) (d : Option ℕ) (o : Option ReportLine) → Above 3 (lower_stage k d o)
lower-above k d (Some (texts.Lower b)) = verdict-above (verdict_by k d b)
lower-above k d _ = tt

flag-above : (v : Verdict) (o : Option ReportLine) → Above 5 (flag_stage v o)
unfolding rank
flag-above v (Some texts.LogYes) = omega arith
flag-above v _ = tt

end-above : (v : Verdict) (o : Option ReportLine) → Above 6 (end_stage v o)
unfolding rank
end-above v (Some texts.End) = omega arith
end-above v _ = tt

ok-same : (p q : Progress) → ◌≡◌ {A = Outcome} (Ok p) (Ok q) → p ≡ q
ok-same p q e = cc

-- a step to a further stage
moves : (P : Project) (p q : Progress) (n : ℕ) (r : Result Stage Reason) → rank p.stage ≡ n → Above n r → Fits P p → Ok q ≡ moved p r → (weight p + 1 ≤ weight q) × Fits P q
moves P p q n (Ok s) same up fits e =
    let is = ok-same q (at p s) e in
    subst (λ (x : Progress). (weight p + 1 ≤ weight x) × Fits P x) (sym is) (omega arith, record { places = fits.places; lines = fits.lines })
moves P p q n (Err r) same up fits e = absurd (cc)

after-rank : (v : Verdict) (b : Bool) → 4 ≤ rank (if b then stages.Flag v else stages.Job v)
unfolding rank
after-rank v true = omega arith
after-rank v false = omega arith

job-step : (P : Project) (p q : Progress) (v : Verdict) (o : Option ReportLine) → IsWithinLimits P → rank p.stage ≡ 4 → Fits P p → IsJobStep P p v o (Ok q) → (weight p + 1 ≤ weight q) × Fits P q
job-step P p q v (Some (texts.Job j m s)) limits at4 fits (inl x) = absurd (cc)
job-step P p q v (Some (texts.Job j m s)) limits at4 fits (inr (job, inl x)) = absurd (cc)
job-step P p q v (Some (texts.Job j m s)) limits at4 fits (inr (job, inr (mode, inl x))) = absurd (cc)
job-step P p q v (Some (texts.Job j m s)) limits at4 fits (inr (job, inr (mode, inr (plan, e)))) =
    let is = ok-same q (after_job P v p (placed p m s)) e in
    let few : j ≤ job_count P = elim (cases_lt (job_count P) j) [ inl past ↦ absurd (no-mode P j m past mode) | inr low ↦ low ] in
    let most = limits.few_jobs in
    let size : length (placed p m s) ≡ length p.places + 1 = length-append p.places (record { mode = m; start = s } ∷ []) in
    let up = after-rank v (length (placed p m s) == job_count P) in
    subst (λ (x : Progress). (weight p + 1 ≤ weight x) × Fits P x) (sym is) (omega arith, record { places = omega arith; lines = fits.lines })
job-step P p q v _ limits at4 fits s = absurd (cc)

judged-step : (P : Project) (p q : Progress) (v : Verdict) (b : Branch) (rest : List Branch) (l : LogLine) → IsWithinLimits P → Fits P p → Wants P v p.lines (b ∷ rest) → IsJudgedStep P p v b l (Ok q) → (weight p + 1 ≤ weight q) × Fits P q
judged-step P p q v b rest l limits fits w (inl x) = absurd (cc (x.2))
judged-step P p q v b rest l limits fits w (inr x) =
    let is = ok-same q (record { stage = p.stage; places = p.places; lines = p.lines ++ l ∷ [] }) x.1 in
    let next = next_law P v p.lines l b rest w x.0 in
    let r = room_law P v (p.lines ++ l ∷ []) (below P b l ++ rest) limits next in
    let few = r.0 in let most = r.1 in
    let size = length-append p.lines (l ∷ []) in
    subst (λ (y : Progress). (weight p + 1 ≤ weight y) × Fits P y) (sym is) (omega arith, record { places = fits.places; lines = omega arith })

wanted-step : (P : Project) (p q : Progress) (v : Verdict) (bs : List Branch) (o : Option ReportLine) → IsWithinLimits P → rank p.stage ≡ 6 → Fits P p → Wants P v p.lines bs → IsWantedStep P p v bs o (Ok q) → (weight p + 1 ≤ weight q) × Fits P q
wanted-step P p q v [] o limits at6 fits w s = moves P p q 6 (end_stage v o) at6 (end-above v o) fits s
wanted-step P p q v (b ∷ rest) (Some (texts.Log words)) limits at6 fits w (inl x) = absurd (cc (x.1))
wanted-step P p q v (b ∷ rest) (Some (texts.Log words)) limits at6 fits w (inr x) = judged-step P p q v b rest x.0 limits fits w x.2
wanted-step P p q v (b ∷ rest) _ limits at6 fits w s = absurd (cc)

line-step : (P : Project) (p q : Progress) (s : Stage) (o : Option ReportLine) → p.stage ≡ s → IsWithinLimits P → Fits P p → IsLineStep P p s o (Ok q) → (weight p + 1 ≤ weight q) × Fits P q
unfolding rank
line-step P p q stages.Title o e limits fits s = moves P p q 0 (title_stage o) (ap rank e) (title-above o) fits s
line-step P p q stages.Kind o e limits fits s = moves P p q 1 (kind_stage o) (ap rank e) (kind-above o) fits s
line-step P p q (stages.Duration k) o e limits fits s = moves P p q 2 (duration_stage k o) (ap rank e) (duration-above k o) fits s
line-step P p q (stages.Lower k d) o e limits fits s = moves P p q 3 (lower_stage k d o) (ap rank e) (lower-above k d o) fits s
line-step P p q (stages.Flag v) o e limits fits s = moves P p q 5 (flag_stage v o) (ap rank e) (flag-above v o) fits s
line-step P p q (stages.Job v) o e limits fits s = job-step P p q v o limits (ap rank e) fits s
line-step P p q (stages.Line v) o e limits fits s = wanted-step P p q v s.0 o limits (ap rank e) fits s.1 s.2
line-step P p q (stages.Ended v) o e limits fits s = absurd (cc)

step-weight : (P : Project) (p q : Progress) (w : List ℕ) → IsWithinLimits P → Fits P p → IsStep P p w (Ok q) → (weight p + 1 ≤ weight q) × Fits P q
step-weight P p q w limits fits s = elim s.outcome [
  | inl x ↦ absurd (cc (x.1))
  | inr x ↦ elim x.1 [ inl y ↦ absurd (cc (y.1)) | inr y ↦ line-step P p q p.stage y.1.0 refl limits fits y.1.2 ]
]

leads-weight : (P : Project) (p q : Progress) (ls : List (List ℕ)) → IsWithinLimits P → Fits P p → Leads P p ls q → (weight p + length ls ≤ weight q) × Fits P q
leads-weight P p q [] limits fits h = let e = ap (λ (x : Progress). weight x) h in (omega arith, subst (Fits P) h fits)
leads-weight P p q (l ∷ ls) limits fits h =
    let one = step-weight P p h.0 l limits fits h.1 in
    let more = leads-weight P h.0 q ls limits one.1 h.2 in
    let low = one.0 in let high = more.0 in (omega arith, more.1)

rank-few : (s : Stage) → rank s ≤ 7
unfolding rank
rank-few stages.Title = omega arith
rank-few stages.Kind = omega arith
rank-few (stages.Duration k) = omega arith
rank-few (stages.Lower k d) = omega arith
rank-few (stages.Job v) = omega arith
rank-few (stages.Flag v) = omega arith
rank-few (stages.Line v) = omega arith
rank-few (stages.Ended v) = omega arith

-- a report that breaks no rule has few lines
pub few-lines : (P : Project) (p : Progress) (ls : List (List ℕ)) → IsWithinLimits P → Leads P start ls p → length ls ≤ 51200136
few-lines P p ls limits h =
    let r = leads-weight P start p ls limits (record { places = omega arith; lines = omega arith }) h in
    let up = r.0 in let places = r.1.places in let lines = r.1.lines in let stage = rank-few p.stage in omega arith

-- and its places and the lines of its log are few too
pub few-parts : (P : Project) (p : Progress) (ls : List (List ℕ)) → IsWithinLimits P → Leads P start ls p → Fits P p
few-parts P p ls limits h = let r = leads-weight P start p ls limits (record { places = omega arith; lines = omega arith }) h in r.1
