-- A report that is accepted holds, and so what its verdict claims is true.
use Rattle.std.proofs.Common.{◌≡◌, ℕ, inl, inr, refl, sym, subst, List, [], ◌∷◌, ◌++◌, length, Bool, true, false, Option, Some, None}
use Rattle.std.specs.Prelude.{◌==◌, Ok, Err, Result, is_some, if◌then◌else◌}
use Rattle.std.proofs.lemmas.Bool.{eqb-true}
use Rattle.rcpsp_model.specs.declared.parts.Placing.{Placing}
use Rattle.rcpsp_model.specs.declared.parts.Verdict.{Verdict}
use Rattle.rcpsp_model.specs.Project.{Project, job_count}
use Rattle.rcpsp_model.specs.Claim.{HasDuration, Claim}
use Rattle.proof_log.specs.declared.line.ReportLine.{ReportLine}
use Rattle.proof_log.specs.declared.line.ReportLine.TheVariants as texts
use Rattle.proof_log.specs.declared.report.LogLine.{LogLine}
use Rattle.proof_log.specs.declared.report.Report.{Report}
use Rattle.proof_log.specs.Report.{duration_of}
use Rattle.log_truth.specs.Log.{Branch, at_root, below}
use Rattle.log_truth.specs.Refusal.{Wants}
use Rattle.log_truth.proofs.NextLines.{next_law}
use Rattle.log_truth.proofs.OneRefusal.{good_law}
use Rattle.log_truth.proofs.TrueVerdicts.{holds_law}
use Rattle.log_checker.specs.declared.reason.Reason.{Reason}
use Rattle.log_checker.specs.declared.reason.Reason.TheVariants.{BadVerdict}
use Rattle.log_checker.specs.declared.stage.Kind.{Kind}
use Rattle.log_checker.specs.declared.stage.Stage.{Stage}
use Rattle.log_checker.specs.declared.stage.Stage.TheVariants as stages
use Rattle.log_checker.specs.Progress.{Progress, Outcome, start, at, moved, title_stage, kind_stage, allows_duration, duration_stage, verdict_by, verdict_stage, lower_stage, flag_stage, end_stage, placed, after_job, IsRightPlan, IsJobStep, IsJudgedStep, IsWantedStep, IsLineStep, IsStep}
use Rattle.log_checker.specs.Refusal.{Leads}
use Rattle.log_checker.specs.Laws.{StaysLaw, HoldsLaw, ClaimLaw}
use Rattle.log_checker.proofs.TextLines.{stays}

-- the schedule of the job lines, where there is a duration
unfoldable pub best_of : Option ℕ → List Placing → Option (List Placing)
best_of (Some d) places = Some places
best_of None places = None

-- what the lines so far have settled, by the stage
abbrev pub Settled : Project → Stage → List Placing → List LogLine → Type 0
Settled P (stages.Job v) places lines = (is_some (duration_of v) ≡ true) × (lines ≡ [])
Settled P (stages.Flag v) places lines = HasDuration P (duration_of v) (best_of (duration_of v) places) × (lines ≡ [])
Settled P (stages.Line v) places lines = HasDuration P (duration_of v) (best_of (duration_of v) places) × ((ws : List Branch) × Wants P v lines ws)
Settled P (stages.Ended v) places lines = HasDuration P (duration_of v) (best_of (duration_of v) places) × Wants P v lines []
Settled P stages.Title places lines = lines ≡ []
Settled P stages.Kind places lines = lines ≡ []
Settled P (stages.Duration k) places lines = lines ≡ []
Settled P (stages.Lower k d) places lines = lines ≡ []

abbrev pub SettledBy : Project → Progress → Type 0
SettledBy P p = Settled P p.stage p.places p.lines

abbrev Leaves : Project → List Placing → List LogLine → Result Stage Reason → Type 0
Leaves P places lines (Ok s) = Settled P s places lines
Leaves P places lines (Err r) = Unit {0}

ok-same : (p q : Progress) → ◌≡◌ {A = Outcome} (Ok p) (Ok q) → p ≡ q
ok-same p q e = cc

moves : (P : Project) (p q : Progress) (r : Result Stage Reason) → Leaves P p.places p.lines r → Ok q ≡ moved p r → SettledBy P q
moves P p q (Ok s) h e = subst (SettledBy P) (sym (ok-same q (at p s) e)) h
moves P p q (Err r) h e = absurd (cc)

title-leaves : (P : Project) (places : List Placing) (lines : List LogLine) (o : Option ReportLine) → lines ≡ [] → Leaves P places lines (title_stage o)
title-leaves P places lines (Some texts.Title) none = none
title-leaves P places lines _ none = tt

kind-leaves : (P : Project) (places : List Placing) (lines : List LogLine) (o : Option ReportLine) → lines ≡ [] → Leaves P places lines (kind_stage o)
kind-leaves P places lines (Some texts.Optimal) none = none
kind-leaves P places lines (Some texts.Infeasible) none = none
kind-leaves P places lines (Some texts.Limit) none = none
kind-leaves P places lines _ none = tt

duration-leaves : (P : Project) (places : List Placing) (lines : List LogLine) (k : Kind) (o : Option ReportLine) → lines ≡ [] → Leaves P places lines (duration_stage k o)
duration-leaves P places lines k (Some (texts.Duration d)) none = elim (allows_duration k d) as (λ b. Leaves P places lines (if b then Ok (stages.Lower k d) else Err BadVerdict)) [ true ↦ none | false ↦ tt ]
duration-leaves P places lines k _ none = tt

flag-none : (P : Project) (d : Option ℕ) (places : List Placing) → is_some d ≡ false → HasDuration P d (best_of d places)
unfolding best_of
flag-none P None places e = tt
flag-none P (Some d) places e = absurd (cc)

best-some : (P : Project) (d : Option ℕ) (places : List Placing) → is_some d ≡ true → HasDuration P d (Some places) → HasDuration P d (best_of d places)
unfolding best_of
best-some P (Some d) places e h = h
best-some P None places e h = absurd (cc)

verdict-leaves : (P : Project) (places : List Placing) (lines : List LogLine) (o : Option Verdict) → lines ≡ [] → Leaves P places lines (verdict_stage o)
verdict-leaves P places lines None none = tt
verdict-leaves P places lines (Some v) none = at_ (is_some (duration_of v)) refl
  where
    at_ : (b : Bool) → is_some (duration_of v) ≡ b → Leaves P places lines (if b then Ok (stages.Job v) else Ok (stages.Flag v))
    at_ true e = (e, none)
    at_ false e = (flag-none P (duration_of v) places e, none)

lower-leaves : (P : Project) (places : List Placing) (lines : List LogLine) (k : Kind) (d : Option ℕ) (o : Option ReportLine) → lines ≡ [] → Leaves P places lines (lower_stage k d o)
lower-leaves P places lines k d (Some (texts.Lower b)) none = verdict-leaves P places lines (verdict_by k d b) none
lower-leaves P places lines k d _ none = tt

first-wants : (P : Project) (v : Verdict) (lines : List LogLine) → lines ≡ [] → Wants P v lines (at_root ∷ [])
first-wants P v lines e = subst (λ (ls : List LogLine). Wants P v ls (at_root ∷ [])) (sym e) refl

flag-leaves : (P : Project) (places : List Placing) (lines : List LogLine) (v : Verdict) (o : Option ReportLine) → Settled P (stages.Flag v) places lines → Leaves P places lines (flag_stage v o)
flag-leaves P places lines v (Some texts.LogYes) h = (h.0, (at_root ∷ [], first-wants P v lines h.1))
flag-leaves P places lines v _ h = tt

end-leaves : (P : Project) (places : List Placing) (lines : List LogLine) (v : Verdict) (o : Option ReportLine) → HasDuration P (duration_of v) (best_of (duration_of v) places) → Wants P v lines [] → Leaves P places lines (end_stage v o)
end-leaves P places lines v (Some texts.End) h w = (h, w)
end-leaves P places lines v _ h w = tt

job-leaves : (P : Project) (v : Verdict) (places : List Placing) (lines : List LogLine) (b : Bool) → length places == job_count P ≡ b → is_some (duration_of v) ≡ true → lines ≡ [] → IsRightPlan P v places → Settled P (if b then stages.Flag v else stages.Job v) places lines
job-leaves P v places lines true e some none plan = (best-some P (duration_of v) places some (plan (eqb-true (length places) (job_count P) e)), none)
job-leaves P v places lines false e some none plan = (some, none)

job-step : (P : Project) (p q : Progress) (v : Verdict) (o : Option ReportLine) → Settled P (stages.Job v) p.places p.lines → IsJobStep P p v o (Ok q) → SettledBy P q
job-step P p q v (Some (texts.Job j m s)) h (inl x) = absurd (cc)
job-step P p q v (Some (texts.Job j m s)) h (inr (job, inl x)) = absurd (cc)
job-step P p q v (Some (texts.Job j m s)) h (inr (job, inr (mode, inl x))) = absurd (cc)
job-step P p q v (Some (texts.Job j m s)) h (inr (job, inr (mode, inr (plan, e)))) =
    subst (SettledBy P) (sym (ok-same q (after_job P v p (placed p m s)) e)) (job-leaves P v (placed p m s) p.lines (length (placed p m s) == job_count P) refl h.0 h.1 plan)
job-step P p q v _ h s = absurd (cc)

judged-step : (P : Project) (p q : Progress) (v : Verdict) (b : Branch) (rest : List Branch) (l : LogLine) → p.stage ≡ stages.Line v → HasDuration P (duration_of v) (best_of (duration_of v) p.places) → Wants P v p.lines (b ∷ rest) → IsJudgedStep P p v b l (Ok q) → SettledBy P q
judged-step P p q v b rest l e h w (inl x) = absurd (cc (x.2))
judged-step P p q v b rest l e h w (inr x) =
    let is = ok-same q (record { stage = p.stage; places = p.places; lines = p.lines ++ l ∷ [] }) x.1 in
    subst (SettledBy P) (sym is) (subst (λ (s : Stage). Settled P s p.places (p.lines ++ l ∷ [])) (sym e) (h, (below P b l ++ rest, next_law P v p.lines l b rest w x.0)))

wanted-step : (P : Project) (p q : Progress) (v : Verdict) (bs : List Branch) (o : Option ReportLine) → p.stage ≡ stages.Line v → HasDuration P (duration_of v) (best_of (duration_of v) p.places) → Wants P v p.lines bs → IsWantedStep P p v bs o (Ok q) → SettledBy P q
wanted-step P p q v [] o e h w s = moves P p q (end_stage v o) (end-leaves P p.places p.lines v o h w) s
wanted-step P p q v (b ∷ rest) (Some (texts.Log words)) e h w (inl x) = absurd (cc (x.1))
wanted-step P p q v (b ∷ rest) (Some (texts.Log words)) e h w (inr x) = judged-step P p q v b rest x.0 e h w x.2
wanted-step P p q v (b ∷ rest) _ e h w s = absurd (cc)

line-step : (P : Project) (p q : Progress) (s : Stage) (o : Option ReportLine) → p.stage ≡ s → Settled P s p.places p.lines → IsLineStep P p s o (Ok q) → SettledBy P q
line-step P p q stages.Title o e h s = moves P p q (title_stage o) (title-leaves P p.places p.lines o h) s
line-step P p q stages.Kind o e h s = moves P p q (kind_stage o) (kind-leaves P p.places p.lines o h) s
line-step P p q (stages.Duration k) o e h s = moves P p q (duration_stage k o) (duration-leaves P p.places p.lines k o h) s
line-step P p q (stages.Lower k d) o e h s = moves P p q (lower_stage k d o) (lower-leaves P p.places p.lines k d o h) s
line-step P p q (stages.Flag v) o e h s = moves P p q (flag_stage v o) (flag-leaves P p.places p.lines v o h) s
line-step P p q (stages.Job v) o e h s = job-step P p q v o h s
line-step P p q (stages.Line v) o e h s = wanted-step P p q v s.0 o e h.0 s.1 s.2
line-step P p q (stages.Ended v) o e h s = absurd (cc)

pub step-settled : (P : Project) (p q : Progress) (w : List ℕ) → SettledBy P p → IsStep P p w (Ok q) → SettledBy P q
step-settled P p q w h s = elim s.outcome [
  | inl x ↦ absurd (cc (x.1))
  | inr x ↦ elim x.1 [ inl y ↦ absurd (cc (y.1)) | inr y ↦ line-step P p q p.stage y.1.0 refl h y.1.2 ]
]

pub leads-settled : (P : Project) (p q : Progress) (ls : List (List ℕ)) → SettledBy P p → Leads P p ls q → SettledBy P q
leads-settled P p q [] h e = subst (SettledBy P) e h
leads-settled P p q (l ∷ ls) h e = leads-settled P e.0 q ls (step-settled P p e.0 l h e.1) e.2

pub stays_law : StaysLaw
stays_law P bytes more n r h = stays P bytes more n r h

pub accepted_holds : HoldsLaw
accepted_holds P bytes v a =
    let h = subst (λ (s : Stage). Settled P s a.progress.places a.progress.lines) a.ended (leads-settled P start a.progress _ refl a.leads) in
    let report : Report = record { verdict = v; best = best_of (duration_of v) a.progress.places; log = Some a.progress.lines } in
    (report, refl, record { lines = a.progress.lines; is_its = refl; log = (good_law P v a.progress.lines).0 (h.1, a.served, a.lower); best = h.0 })

pub accepted_claim : ClaimLaw
accepted_claim P bytes v acyclic a =
    let h = accepted_holds P bytes v a in
    (h.0.best, subst (λ (x : Verdict). Claim P x h.0.best) h.1 (holds_law P h.0 acyclic h.2))
