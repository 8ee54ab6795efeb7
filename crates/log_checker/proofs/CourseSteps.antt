-- The whole lines of a report: what a step of each kind comes to.
use Rattle.std.proofs.Common.{◌≡◌, ℕ, ◌+◌, ◌-◌, ◌<◌, ◌≤◌, inl, inr, arith, refl, sym, ap, subst, ◌∙◌, List, [], ◌∷◌, ◌++◌, length, Bool, true, false, cond, Option, Some, None}
use Rattle.std.specs.Prelude.{◌==◌, Ok, Err, All, Result, is_some, if◌then◌else◌}
use Rattle.std.proofs.lemmas.List.{get_or_past}
use Rattle.std.proofs.lemmas.List.Elements.{All-push}
use Rattle.rcpsp_model.specs.declared.parts.Placing.{Placing}
use Rattle.rcpsp_model.specs.declared.parts.Verdict.{Verdict}
use Rattle.rcpsp_model.specs.Project.{Project, Activity, no_activity, job_count, modes_of, IsMode}
use Rattle.rcpsp_model.specs.Claim.{HasDuration}
use Rattle.proof_log.specs.declared.line.ReportLine.{ReportLine}
use Rattle.proof_log.specs.declared.line.ReportLine.TheVariants as texts
use Rattle.proof_log.specs.declared.line.LogWords.{LogWords}
use Rattle.proof_log.specs.declared.report.LogLine.{LogLine}
use Rattle.proof_log.specs.Line.{IsLine}
use Rattle.proof_log.specs.Text.{log_words}
use Rattle.proof_log.specs.Report.{duration_of}
use Rattle.log_truth.specs.Log.{Branch}
use Rattle.log_checker.specs.declared.course.Course.{Course}
use Rattle.log_checker.specs.declared.reason.Reason.{Reason}
use Rattle.log_checker.specs.declared.reason.Reason.TheVariants.{WrongChild, BadVerdict, LinesLeft}
use Rattle.log_checker.specs.declared.stage.Kind.{Kind}
use Rattle.log_checker.specs.declared.stage.Stage.{Stage}
use Rattle.log_checker.specs.declared.stage.Stage.TheVariants as stages
use Rattle.log_checker.specs.declared.walk.Walk.{Walk}
use Rattle.log_checker.specs.Progress.{Progress, Outcome, placed, IsRightPlan, after_job, IsJobStep, IsWantedStep, IsLogStep, IsLineStep, end_stage, moved, at, is_ended, title_stage, kind_stage, allows_duration, duration_stage, verdict_by, verdict_stage, lower_stage, flag_stage, head_stage}
use Rattle.log_checker.specs.Walk.{wanted_of, Stands, IsTaken}
use Rattle.log_checker.specs.Course.{HoldsLog, Holds, Comes}

pub no-mode : (P : Project) (j m : ℕ) → job_count P < j → IsMode P j m → ⊥
unfolding job_count modes_of
no-mode P j m past mode =
    let none = get_or_past P.activities (j - 1) no_activity (let p = past in omega arith) in
    let few = ap (λ (a : Activity). length a.modes) none in
    let low = mode.0 in let high = mode.1 in omega arith

-- Job lines.

pub job-start : (l : ReportLine) (j m s : ℕ) → IsLine l → l ≡ texts.Job j m s → s ≤ 999999999
job-start l j m s is f = let line = subst (λ (x : ReportLine). IsLine x) f is in line.2

pub starts-push : (old new : List Placing) (p : Placing) → All (λ (x : Placing). x.start ≤ 999999999) old → p.start ≤ 999999999 → new ≡ old ++ p ∷ [] → All (λ (x : Placing). x.start ≤ 999999999) new
starts-push old new p all own e = subst (λ (ps : List Placing). All (λ (x : Placing). x.start ≤ 999999999) ps) (sym e) (All-push (λ (x : Placing). x.start ≤ 999999999) old p all own)

before-log : (P : Project) (s : Stage) (v : Verdict) (b : Bool) (walk : Walk) (ls : List LogLine) → s ≡ stages.Job v → HoldsLog P s walk ls → HoldsLog P (cond b (stages.Flag v) (stages.Job v)) walk ls
before-log P s v true walk ls e h = subst (λ (x : Stage). HoldsLog P x walk ls) e h
before-log P s v false walk ls e h = subst (λ (x : Stage). HoldsLog P x walk ls) e h

pub job-goes : (P : Project) (c new : Course) (p : Progress) (v : Verdict) (l : ReportLine) (j m s : ℕ) → Holds P c p → c.stage ≡ stages.Job v → l ≡ texts.Job j m s → j ≡ length c.places + 1 → IsMode P j m →
    new.places ≡ c.places ++ record { mode = m; start = s } ∷ [] → new.walk ≡ c.walk → new.stage ≡ (if length new.places == job_count P then stages.Flag v else stages.Job v) →
    (length new.places ≡ job_count P → HasDuration P (duration_of v) (Some new.places)) → (q : Progress) × IsJobStep P p v (Some l) (Ok q) × Holds P new q
job-goes P c new p v l j m s h at f job mode places walk stage plan =
    let now : new.places ≡ placed p m s = places ∙ ap (λ (ps : List Placing). ps ++ record { mode = m; start = s } ∷ []) h.places in
    let before : p.stage ≡ stages.Job v = sym h.stage ∙ at in
    let right : IsRightPlan P v (placed p m s) = λ all. subst (λ (ps : List Placing). HasDuration P (duration_of v) (Some ps)) now (plan (ap (λ (ps : List Placing). length ps) now ∙ all)) in
    let step : IsJobStep P p v (Some (texts.Job j m s)) (Ok (after_job P v p (placed p m s))) = inr (job ∙ ap (λ (ps : List Placing). length ps + 1) h.places, inr (mode, inr (right, refl))) in (
      after_job P v p (placed p m s),
      subst (λ (x : ReportLine). IsJobStep P p v (Some x) (Ok (after_job P v p (placed p m s)))) (sym f) step,
      record {
        stage = stage ∙ ap (λ (ps : List Placing). if length ps == job_count P then stages.Flag v else stages.Job v) now;
        places = now;
        log = before-log P p.stage v (length (placed p m s) == job_count P) new.walk p.lines before (subst (λ (w : Walk). HoldsLog P p.stage w p.lines) (sym walk) h.log);
      },
    )

-- Lines of the log.

pub in-log : (P : Project) (c : Course) (p : Progress) (v : Verdict) → Holds P c p → c.stage ≡ stages.Line v → Stands P v c.walk p.lines
in-log P c p v h at = subst (λ (s : Stage). HoldsLog P s c.walk p.lines) (sym h.stage ∙ at) h.log

-- the last line, where nothing is wanted
pub end-goes : (P : Project) (c new : Course) (p : Progress) (v : Verdict) (l : ReportLine) → Holds P c p → c.stage ≡ stages.Line v → wanted_of P c.walk ≡ [] → l ≡ texts.End →
    new.stage ≡ stages.Ended v → new.places ≡ c.places → new.walk ≡ c.walk → (q : Progress) × IsLogStep P p v (Some l) (Ok q) × Holds P new q
end-goes P c new p v l h at none f stage places walk =
    let s = in-log P c p v h at in
    let q : Progress = record { stage = stages.Ended v; places = p.places; lines = p.lines } in
    let step : IsWantedStep P p v [] (Some texts.End) (Ok q) = refl in (
      q,
      (
        wanted_of P c.walk,
        s.wanted,
        subst (λ (bs : List Branch). IsWantedStep P p v bs (Some l) (Ok q)) (sym none) (subst (λ (x : ReportLine). IsWantedStep P p v [] (Some x) (Ok q)) (sym f) step),
      ),
      record {
        stage = stage;
        places = places ∙ h.places;
        log = (subst (λ (w : Walk). Stands P v w p.lines) (sym walk) s, ap (wanted_of P) walk ∙ none);
      },
    )

-- another line there
pub left-goes : (P : Project) (c new : Course) (p : Progress) (v : Verdict) (o : Option ReportLine) → Holds P c p → c.stage ≡ stages.Line v → wanted_of P c.walk ≡ [] → Err LinesLeft ≡ moved p (end_stage v o) → IsLogStep P p v o (Err LinesLeft)
left-goes P c new p v o h at none e =
    let s = in-log P c p v h at in (wanted_of P c.walk, s.wanted, subst (λ (bs : List Branch). IsWantedStep P p v bs o (Err LinesLeft)) (sym none) e)

-- where a line is wanted
pub wanted-goes : (P : Project) (c : Course) (p : Progress) (v : Verdict) (o : Option ReportLine) (out : Outcome) → Holds P c p → c.stage ≡ stages.Line v → (wanted_of P c.walk ≡ [] → ⊥) →
    ((b : Branch) (rest : List Branch) → wanted_of P c.walk ≡ b ∷ rest → IsWantedStep P p v (b ∷ rest) o out) → IsLogStep P p v o out
wanted-goes P c p v o out h at some go =
    let s = in-log P c p v h at in (wanted_of P c.walk, s.wanted, cases (wanted_of P c.walk) some go)
  where
    cases : (bs : List Branch) → (bs ≡ [] → ⊥) → ((b : Branch) (rest : List Branch) → bs ≡ b ∷ rest → IsWantedStep P p v (b ∷ rest) o out) → IsWantedStep P p v bs o out
    cases [] no_ f = absurd (no_ refl)
    cases (b ∷ rest) no_ f = f b rest refl

pub line-goes : (P : Project) (c new : Course) (p : Progress) (v : Verdict) (l : ReportLine) (words : LogWords) (line : LogLine) (r : Option Reason) → Holds P c p → c.stage ≡ stages.Line v → (wanted_of P c.walk ≡ [] → ⊥) → l ≡ texts.Log words →
    log_words line ≡ words → new.stage ≡ c.stage → new.places ≡ c.places → ((ls : List LogLine) → Stands P v c.walk ls → IsTaken P v ls (wanted_of P c.walk) line r new.walk) → Comes P (IsLogStep P p v (Some l)) r new
line-goes P c new p v l words line (Some reason) h at some f w stage places taken =
    wanted-goes P c p v (Some l) (Err reason) h at some (λ b rest is.
    let t = subst (λ (bs : List Branch). IsTaken P v p.lines bs line (Some reason) new.walk) is (taken p.lines (in-log P c p v h at)) in
    let step : IsWantedStep P p v (b ∷ rest) (Some (texts.Log words)) (Err reason) = inr (line, w, inl (t.0, t.1, ap (λ (x : Reason). Err x) t.2)) in
    subst (λ (x : ReportLine). IsWantedStep P p v (b ∷ rest) (Some x) (Err reason)) (sym f) step)
line-goes P c new p v l words line None h at some f w stage places taken =
    let q : Progress = record { stage = p.stage; places = p.places; lines = p.lines ++ line ∷ [] } in
    let stands = cases (wanted_of P c.walk) some (taken p.lines (in-log P c p v h at)) in (
      q,
      wanted-goes P c p v (Some l) (Ok q) h at some (λ b rest is.
          let t = subst (λ (bs : List Branch). IsTaken P v p.lines bs line None new.walk) is (taken p.lines (in-log P c p v h at)) in
          let step : IsWantedStep P p v (b ∷ rest) (Some (texts.Log words)) (Ok q) = inr (line, w, inr (t.0, refl)) in
          subst (λ (x : ReportLine). IsWantedStep P p v (b ∷ rest) (Some x) (Ok q)) (sym f) step),
      record {
        stage = stage ∙ h.stage;
        places = places ∙ h.places;
        log = subst (λ (s : Stage). HoldsLog P s new.walk (p.lines ++ line ∷ [])) (sym (sym h.stage ∙ at)) stands;
      },
    )
  where
    cases : (bs : List Branch) → (bs ≡ [] → ⊥) → IsTaken P v p.lines bs line None new.walk → Stands P v new.walk (p.lines ++ line ∷ [])
    cases [] no_ t = absurd (no_ refl)
    cases (b ∷ rest) no_ t = t.1

-- a child whose words no line has
pub none-goes : (P : Project) (c : Course) (p : Progress) (v : Verdict) (l : ReportLine) (words : LogWords) → Holds P c p → c.stage ≡ stages.Line v → (wanted_of P c.walk ≡ [] → ⊥) → l ≡ texts.Log words → ((line : LogLine) → log_words line ≡ words → ⊥) →
    IsLogStep P p v (Some l) (Err WrongChild)
none-goes P c p v l words h at some f none =
    wanted-goes P c p v (Some l) (Err WrongChild) h at some (λ b rest is.
    let step : IsWantedStep P p v (b ∷ rest) (Some (texts.Log words)) (Err WrongChild) = inl (none, refl) in subst (λ (x : ReportLine). IsWantedStep P p v (b ∷ rest) (Some x) (Err WrongChild)) (sym f) step)

-- the last line, where another is wanted
pub soon-goes : (P : Project) (c : Course) (p : Progress) (v : Verdict) (l : ReportLine) → Holds P c p → c.stage ≡ stages.Line v → (wanted_of P c.walk ≡ [] → ⊥) → l ≡ texts.End → IsLogStep P p v (Some l) (Err WrongChild)
soon-goes P c p v l h at some f =
    wanted-goes P c p v (Some l) (Err WrongChild) h at some (λ b rest is.
    let step : IsWantedStep P p v (b ∷ rest) (Some texts.End) (Err WrongChild) = refl in subst (λ (x : ReportLine). IsWantedStep P p v (b ∷ rest) (Some x) (Err WrongChild)) (sym f) step)

-- Lines before the log.

ends : Result Stage Reason → Bool
ends (Ok s) = is_ended s
ends (Err r) = false

title-on : (o : Option ReportLine) → ends (title_stage o) ≡ false
unfolding ends
title-on (Some texts.Title) = refl
title-on _ = refl

kind-on : (o : Option ReportLine) → ends (kind_stage o) ≡ false
unfolding ends
kind-on (Some texts.Optimal) = refl
kind-on (Some texts.Infeasible) = refl
kind-on (Some texts.Limit) = refl
kind-on _ = refl

duration-on : (k : Kind) (o : Option ReportLine) → ends (duration_stage k o) ≡ false
unfolding ends
duration-on k (Some (texts.Duration d)) = elim (allows_duration k d) as (λ b. ends (if b then Ok (stages.Lower k d) else Err BadVerdict) ≡ false) [ true ↦ refl | false ↦ refl ]
duration-on k _ = refl

verdict-on : (o : Option Verdict) → ends (verdict_stage o) ≡ false
unfolding ends
verdict-on None = refl
verdict-on (Some v) = elim (is_some (duration_of v)) as (λ b. ends (if b then Ok (stages.Job v) else Ok (stages.Flag v)) ≡ false) [ true ↦ refl | false ↦ refl ]

lower-on : (k : Kind) (d : Option ℕ) (o : Option ReportLine) → ends (lower_stage k d o) ≡ false
unfolding ends
lower-on k d (Some (texts.Lower b)) = verdict-on (verdict_by k d b)
lower-on k d _ = refl

flag-on : (v : Verdict) (o : Option ReportLine) → ends (flag_stage v o) ≡ false
unfolding ends
flag-on v (Some texts.LogYes) = refl
flag-on v _ = refl

ends-not : (r : Result Stage Reason) (next : Stage) → ends r ≡ false → r ≡ Ok next → is_ended next ≡ false
unfolding ends
ends-not r next off e = sym (ap ends e) ∙ off

-- nothing of a log is kept yet, so what is kept stands for its beginning
begins : (P : Project) (next : Stage) (walk : Walk) (ls : List LogLine) → is_ended next ≡ false → (ls ≡ []) × ((v : Verdict) → Stands P v walk []) → HoldsLog P next walk ls
begins P stages.Title walk ls off h = h
begins P stages.Kind walk ls off h = h
begins P (stages.Duration k) walk ls off h = h
begins P (stages.Lower k d) walk ls off h = h
begins P (stages.Job v) walk ls off h = h
begins P (stages.Flag v) walk ls off h = h
begins P (stages.Line v) walk ls off h = subst (Stands P v walk) (sym h.0) (h.1 v)
begins P (stages.Ended v) walk ls off h = absurd (cc)

heads : (P : Project) (p : Progress) (s next : Stage) (o : Option ReportLine) (walk : Walk) → HoldsLog P s walk p.lines → head_stage s o ≡ Ok next → IsLineStep P p s o (Ok (at p next)) × HoldsLog P next walk p.lines
heads P p stages.Title next o walk h e = (sym (ap (moved p) e), begins P next walk p.lines (ends-not (title_stage o) next (title-on o) e) h)
heads P p stages.Kind next o walk h e = (sym (ap (moved p) e), begins P next walk p.lines (ends-not (kind_stage o) next (kind-on o) e) h)
heads P p (stages.Duration k) next o walk h e = (sym (ap (moved p) e), begins P next walk p.lines (ends-not (duration_stage k o) next (duration-on k o) e) h)
heads P p (stages.Lower k d) next o walk h e = (sym (ap (moved p) e), begins P next walk p.lines (ends-not (lower_stage k d o) next (lower-on k d o) e) h)
heads P p (stages.Flag v) next o walk h e = (sym (ap (moved p) e), begins P next walk p.lines (ends-not (flag_stage v o) next (flag-on v o) e) h)
heads P p (stages.Job v) next o walk h e = absurd (cc)
heads P p (stages.Line v) next o walk h e = absurd (cc)
heads P p (stages.Ended v) next o walk h e = absurd (cc)

pub head-goes : (P : Project) (c new : Course) (p : Progress) (l : ReportLine) (next : Stage) → Holds P c p → head_stage c.stage (Some l) ≡ Ok next → new.stage ≡ next → new.places ≡ c.places → new.walk ≡ c.walk →
    (q : Progress) × IsLineStep P p p.stage (Some l) (Ok q) × Holds P new q
head-goes P c new p l next h e stage places walk =
    let g = heads P p p.stage next (Some l) c.walk h.log (ap (λ (s : Stage). head_stage s (Some l)) (sym h.stage) ∙ e) in
    (at p next, g.0, record { stage = stage; places = places ∙ h.places; log = subst (λ (w : Walk). HoldsLog P next w p.lines) (sym walk) g.1 })

pub comes-log : (P : Project) (c : Course) (p : Progress) (s : Stage) (v : Verdict) (o : Option ReportLine) (r : Option Reason) → s ≡ stages.Line v → Comes P (IsLogStep P p v o) r c → Comes P (IsLineStep P p s o) r c
comes-log P c p s v o r e h = subst (λ (x : Stage). Comes P (IsLineStep P p x o) r c) (sym e) h
