-- A text that is accepted is that of a report: what its lines say so far, line by line.
use Rattle.std.proofs.Common.{◌≡◌, ℕ, ◌+◌, inl, inr, arith, refl, sym, ap, subst, ◌∙◌, append_assoc, List, [], ◌∷◌, ◌++◌, length, Bool, true, false, Option, Some, None}
use Rattle.std.specs.Prelude.{◌==◌, nat_lt, Ok, Err, Result, is_some, if◌then◌else◌}
use Rattle.std.specs.List.{AllByRecursion}
use Rattle.std.proofs.lemmas.Bool.{cases_Bool, eqb-true}
use Rattle.std.proofs.lemmas.List.{append-nil}
use Rattle.rcpsp_model.specs.declared.parts.Placing.{Placing}
use Rattle.rcpsp_model.specs.declared.parts.Verdict.{Verdict}
use Rattle.rcpsp_model.specs.declared.parts.Verdict.TheVariants as verdicts
use Rattle.rcpsp_model.specs.Project.{Project, job_count}
use Rattle.proof_log.specs.declared.line.ReportLine.{ReportLine}
use Rattle.proof_log.specs.declared.line.ReportLine.TheVariants as texts
use Rattle.proof_log.specs.declared.report.LogLine.{LogLine}
use Rattle.proof_log.specs.declared.report.Report.{Report}
use Rattle.proof_log.specs.Line.{line_text, IsLine}
use Rattle.proof_log.specs.Lines.{is_line_end}
use Rattle.proof_log.specs.Report.{duration_of}
use Rattle.proof_log.specs.Text.{verdict_lines, job_lines, best_part, log_words, log_lines, lines_of, text_of_lines, text}
use Rattle.proof_log.proofs.WrittenParts.{text_of_line, text_of_parts, nothing, jobs_from}
use Rattle.log_truth.specs.Log.{Branch}
use Rattle.log_truth.specs.Holds.{Holds}
use Rattle.log_truth.proofs.OneRefusal.{good_law}
use Rattle.log_checker.specs.declared.reason.Reason.{Reason}
use Rattle.log_checker.specs.declared.reason.Reason.TheVariants.{BadVerdict}
use Rattle.log_checker.specs.declared.stage.Kind.{Kind}
use Rattle.log_checker.specs.declared.stage.Kind.TheVariants as kinds
use Rattle.log_checker.specs.declared.stage.Stage.{Stage}
use Rattle.log_checker.specs.declared.stage.Stage.TheVariants as stages
use Rattle.log_checker.specs.Progress.{Progress, Outcome, start, at, moved, title_stage, kind_stage, allows_duration, duration_stage, verdict_by, verdict_stage, lower_stage, flag_stage, end_stage, placed, after_job, IsJobStep, IsJudgedStep, IsWantedStep, IsLineStep, IsReadAs, IsStep}
use Rattle.log_checker.specs.Refusal.{whole_from, rest_from, whole_lines, Leads}
use Rattle.log_checker.specs.Checker.{IsAcceptedAs}
use Rattle.log_checker.specs.Laws.{TextLaw}
use Rattle.log_checker.proofs.SoundVerdicts.{best_of, Settled, leads-settled}

-- What the lines so far say, by the stage.

abbrev kind_line : Kind → ReportLine
kind_line kinds.Optimal = texts.Optimal
kind_line kinds.Infeasible = texts.Infeasible
kind_line kinds.Limit = texts.Limit

abbrev best_lines : Verdict → List Placing → List ReportLine
best_lines v places = best_part (best_of (duration_of v) places)

-- these lines have been said
abbrev Told : Stage → List Placing → List LogLine → List ReportLine → Type 0
Told stages.Title places lines said = (places ≡ []) × (lines ≡ []) × (said ≡ [])
Told stages.Kind places lines said = (places ≡ []) × (lines ≡ []) × (said ≡ texts.Title ∷ [])
Told (stages.Duration k) places lines said = (places ≡ []) × (lines ≡ []) × (said ≡ texts.Title ∷ kind_line k ∷ [])
Told (stages.Lower k d) places lines said = (places ≡ []) × (lines ≡ []) × (said ≡ texts.Title ∷ kind_line k ∷ texts.Duration d ∷ [])
Told (stages.Job v) places lines said = (is_some (duration_of v) ≡ true) × (lines ≡ []) × (said ≡ verdict_lines v ++ job_lines places)
Told (stages.Flag v) places lines said = (lines ≡ []) × (said ≡ verdict_lines v ++ best_lines v places)
Told (stages.Line v) places lines said = said ≡ (verdict_lines v ++ best_lines v places) ++ texts.LogYes ∷ log_lines lines
Told (stages.Ended v) places lines said = said ≡ ((verdict_lines v ++ best_lines v places) ++ texts.LogYes ∷ log_lines lines) ++ texts.End ∷ []

abbrev ToldBy : Progress → List ReportLine → Type 0
ToldBy p said = Told p.stage p.places p.lines said

abbrev Tells : List Placing → List LogLine → List ReportLine → Result Stage Reason → Type 0
Tells places lines said (Ok s) = Told s places lines said
Tells places lines said (Err r) = Unit {0}

-- the line that was read, with which more is said
abbrev Adds : List ReportLine → Option ReportLine → Progress → Type 0
Adds said o q = (l : ReportLine) × (o ≡ Some l) × ToldBy q (said ++ l ∷ [])

ok-same : (p q : Progress) → ◌≡◌ {A = Outcome} (Ok p) (Ok q) → p ≡ q
ok-same p q e = cc

moves : (p q : Progress) (r : Result Stage Reason) (said : List ReportLine) → Tells p.places p.lines said r → Ok q ≡ moved p r → ToldBy q said
moves p q (Ok s) said h e = subst (λ (x : Progress). ToldBy x said) (sym (ok-same q (at p s) e)) h
moves p q (Err r) said h e = absurd (cc)

more : (a b : List ReportLine) (l : ReportLine) → a ≡ b → a ++ l ∷ [] ≡ b ++ l ∷ []
more a b l e = ap (λ (x : List ReportLine). x ++ l ∷ []) e

title-tells : (places : List Placing) (lines : List LogLine) (said : List ReportLine) (l : ReportLine) → Told stages.Title places lines said → Tells places lines (said ++ l ∷ []) (title_stage (Some l))
title-tells places lines said texts.Title h = (h.0, h.1, more said [] texts.Title h.2)
title-tells places lines said _ h = tt

kind-tells : (places : List Placing) (lines : List LogLine) (said : List ReportLine) (l : ReportLine) → Told stages.Kind places lines said → Tells places lines (said ++ l ∷ []) (kind_stage (Some l))
kind-tells places lines said texts.Optimal h = (h.0, h.1, more said (texts.Title ∷ []) texts.Optimal h.2)
kind-tells places lines said texts.Infeasible h = (h.0, h.1, more said (texts.Title ∷ []) texts.Infeasible h.2)
kind-tells places lines said texts.Limit h = (h.0, h.1, more said (texts.Title ∷ []) texts.Limit h.2)
kind-tells places lines said _ h = tt

duration-tells : (places : List Placing) (lines : List LogLine) (said : List ReportLine) (k : Kind) (l : ReportLine) → Told (stages.Duration k) places lines said → Tells places lines (said ++ l ∷ []) (duration_stage k (Some l))
duration-tells places lines said k (texts.Duration d) h =
    elim (allows_duration k d) as (λ b. Tells places lines (said ++ texts.Duration d ∷ []) (if b then Ok (stages.Lower k d) else Err BadVerdict)) [
      | true ↦ (h.0, h.1, more said (texts.Title ∷ kind_line k ∷ []) (texts.Duration d) h.2)
      | false ↦ tt
    ]
duration-tells places lines said k _ h = tt

-- the four lines of a verdict
abbrev IsSaid : Kind → Option ℕ → Option ℕ → Option Verdict → Type 0
IsSaid k d b (Some v) = verdict_lines v ≡ texts.Title ∷ kind_line k ∷ texts.Duration d ∷ texts.Lower b ∷ []
IsSaid k d b None = Unit {0}

verdict-said : (k : Kind) (d b : Option ℕ) → IsSaid k d b (verdict_by k d b)
verdict-said kinds.Optimal (Some d) (Some b) = at_ (b == d) refl
  where
    at_ : (c : Bool) → b == d ≡ c → IsSaid kinds.Optimal (Some d) (Some b) (if c then Some (verdicts.Optimal d) else None)
    at_ true e = ap (λ (n : ℕ). texts.Title ∷ texts.Optimal ∷ texts.Duration (Some d) ∷ texts.Lower (Some n) ∷ []) (sym (eqb-true b d e))
    at_ false e = tt
verdict-said kinds.Infeasible None None = refl
verdict-said kinds.Limit None (Some b) = refl
verdict-said kinds.Limit (Some d) (Some b) = elim (nat_lt b d) as (λ c. IsSaid kinds.Limit (Some d) (Some b) (if c then Some (verdicts.Limit (Some d) b) else None)) [ true ↦ refl | false ↦ tt ]
verdict-said kinds.Optimal None b = tt
verdict-said kinds.Optimal (Some d) None = tt
verdict-said kinds.Infeasible (Some d) b = tt
verdict-said kinds.Infeasible None (Some b) = tt
verdict-said kinds.Limit None None = tt
verdict-said kinds.Limit (Some d) None = tt

best-none : (d : Option ℕ) (places : List Placing) → is_some d ≡ false → best_part (best_of d places) ≡ []
unfolding best_of
best-none None places e = refl
best-none (Some d) places e = absurd (cc)

best-some : (d : Option ℕ) (places : List Placing) → is_some d ≡ true → best_part (best_of d places) ≡ job_lines places
unfolding best_of
best-some (Some d) places e = refl
best-some None places e = absurd (cc)

verdict-tells : (places : List Placing) (lines : List LogLine) (said : List ReportLine) (k : Kind) (d b : Option ℕ) (o : Option Verdict) → places ≡ [] → lines ≡ [] → said ≡ texts.Title ∷ kind_line k ∷ texts.Duration d ∷ texts.Lower b ∷ [] → IsSaid k d b o →
    Tells places lines said (verdict_stage o)
verdict-tells places lines said k d b None ps ls e is = tt
verdict-tells places lines said k d b (Some v) ps ls e is = at_ (is_some (duration_of v)) refl
  where
    at_ : (c : Bool) → is_some (duration_of v) ≡ c → Tells places lines said (if c then Ok (stages.Job v) else Ok (stages.Flag v))
    at_ true some = (some, ls, e ∙ sym is ∙ sym (append-nil (verdict_lines v)) ∙ ap (λ (xs : List Placing). verdict_lines v ++ job_lines xs) (sym ps))
    at_ false none = (ls, e ∙ sym is ∙ sym (append-nil (verdict_lines v)) ∙ ap (λ (xs : List ReportLine). verdict_lines v ++ xs) (sym (best-none (duration_of v) places none)))

lower-tells : (places : List Placing) (lines : List LogLine) (said : List ReportLine) (k : Kind) (d : Option ℕ) (l : ReportLine) → Told (stages.Lower k d) places lines said → Tells places lines (said ++ l ∷ []) (lower_stage k d (Some l))
lower-tells places lines said k d (texts.Lower b) h =
    verdict-tells places lines (said ++ texts.Lower b ∷ []) k d b (verdict_by k d b) h.0 h.1 (more said (texts.Title ∷ kind_line k ∷ texts.Duration d ∷ []) (texts.Lower b) h.2) (verdict-said k d b)
lower-tells places lines said k d _ h = tt

flag-tells : (places : List Placing) (lines : List LogLine) (said : List ReportLine) (v : Verdict) (l : ReportLine) → Told (stages.Flag v) places lines said → Tells places lines (said ++ l ∷ []) (flag_stage v (Some l))
flag-tells places lines said v texts.LogYes h =
    more said (verdict_lines v ++ best_lines v places) texts.LogYes h.1 ∙ ap (λ (ls : List LogLine). (verdict_lines v ++ best_lines v places) ++ texts.LogYes ∷ log_lines ls) (sym h.0)
flag-tells places lines said v _ h = tt

end-tells : (places : List Placing) (lines : List LogLine) (said : List ReportLine) (v : Verdict) (l : ReportLine) → Told (stages.Line v) places lines said → Tells places lines (said ++ l ∷ []) (end_stage v (Some l))
end-tells places lines said v texts.End h = more said ((verdict_lines v ++ best_lines v places) ++ texts.LogYes ∷ log_lines lines) texts.End h
end-tells places lines said v _ h = tt

-- Job lines.

jobs-push : (j : ℕ) (ps : List Placing) (p : Placing) → jobs_from j (ps ++ p ∷ []) ≡ jobs_from j ps ++ texts.Job (j + length ps) p.mode p.start ∷ []
jobs-push j [] p = let e : j ≡ j + 0 = omega arith in ap (λ (i : ℕ). texts.Job i p.mode p.start ∷ []) e
jobs-push j (x ∷ ps) p =
    let e : j + 1 + length ps ≡ j + length (x ∷ ps) = omega arith in
    ap (λ (ls : List ReportLine). texts.Job j x.mode x.start ∷ ls) (jobs-push (j + 1) ps p ∙ ap (λ (i : ℕ). jobs_from (j + 1) ps ++ texts.Job i p.mode p.start ∷ []) e)

job-said : (v : Verdict) (said : List ReportLine) (places : List Placing) (j m s : ℕ) → said ≡ verdict_lines v ++ job_lines places → j ≡ length places + 1 → said ++ texts.Job j m s ∷ [] ≡ verdict_lines v ++ job_lines (places ++ record { mode = m; start = s } ∷ [])
job-said v said places j m s e number =
    let same : j ≡ 1 + length places = omega arith in
    more said (verdict_lines v ++ job_lines places) (texts.Job j m s) e ∙ ap (λ (i : ℕ). (verdict_lines v ++ job_lines places) ++ texts.Job i m s ∷ []) same
    ∙ append_assoc (verdict_lines v) (job_lines places) (texts.Job (1 + length places) m s ∷ []) ∙ ap (λ (ls : List ReportLine). verdict_lines v ++ ls) (sym (jobs-push 1 places (record { mode = m; start = s })))

job-tells : (v : Verdict) (places : List Placing) (lines : List LogLine) (said : List ReportLine) (b : Bool) → is_some (duration_of v) ≡ true → lines ≡ [] → said ≡ verdict_lines v ++ job_lines places → Told (if b then stages.Flag v else stages.Job v) places lines said
job-tells v places lines said true some ls e = (ls, e ∙ ap (λ (xs : List ReportLine). verdict_lines v ++ xs) (sym (best-some (duration_of v) places some)))
job-tells v places lines said false some ls e = (some, ls, e)

job-step : (P : Project) (p q : Progress) (v : Verdict) (said : List ReportLine) (l : ReportLine) → Told (stages.Job v) p.places p.lines said → IsJobStep P p v (Some l) (Ok q) → ToldBy q (said ++ l ∷ [])
job-step P p q v said (texts.Job j m s) h (inl x) = absurd (cc)
job-step P p q v said (texts.Job j m s) h (inr (job, inl x)) = absurd (cc)
job-step P p q v said (texts.Job j m s) h (inr (job, inr (mode, inl x))) = absurd (cc)
job-step P p q v said (texts.Job j m s) h (inr (job, inr (mode, inr (plan, e)))) =
    subst (λ (x : Progress). ToldBy x (said ++ texts.Job j m s ∷ [])) (sym (ok-same q (after_job P v p (placed p m s)) e))
    (job-tells v (placed p m s) p.lines (said ++ texts.Job j m s ∷ []) (length (placed p m s) == job_count P) h.0 h.1 (job-said v said p.places j m s h.2 job))
job-step P p q v said _ h s = absurd (cc)

-- Lines of the log.

log-push : (ls : List LogLine) (l : LogLine) → log_lines (ls ++ l ∷ []) ≡ log_lines ls ++ texts.Log (log_words l) ∷ []
log-push [] l = refl
log-push (x ∷ ls) l = ap (λ (xs : List ReportLine). texts.Log (log_words x) ∷ xs) (log-push ls l)

log-said : (a said : List ReportLine) (ls : List LogLine) (l : LogLine) → said ≡ a ++ texts.LogYes ∷ log_lines ls → said ++ texts.Log (log_words l) ∷ [] ≡ a ++ texts.LogYes ∷ log_lines (ls ++ l ∷ [])
log-said a said ls l e =
    more said (a ++ texts.LogYes ∷ log_lines ls) (texts.Log (log_words l)) e ∙ append_assoc a (texts.LogYes ∷ log_lines ls) (texts.Log (log_words l) ∷ [])
    ∙ ap (λ (xs : List ReportLine). a ++ texts.LogYes ∷ xs) (sym (log-push ls l))

judged-step : (P : Project) (p q : Progress) (v : Verdict) (b : Branch) (said : List ReportLine) (l : LogLine) → p.stage ≡ stages.Line v → Told (stages.Line v) p.places p.lines said → IsJudgedStep P p v b l (Ok q) → ToldBy q (said ++ texts.Log (log_words l) ∷ [])
judged-step P p q v b said l e h (inl x) = absurd (cc (x.2))
judged-step P p q v b said l e h (inr x) =
    let is = ok-same q (record { stage = p.stage; places = p.places; lines = p.lines ++ l ∷ [] }) x.1 in
    subst (λ (y : Progress). ToldBy y (said ++ texts.Log (log_words l) ∷ [])) (sym is)
    (subst (λ (s : Stage). Told s p.places (p.lines ++ l ∷ []) (said ++ texts.Log (log_words l) ∷ [])) (sym e) (log-said (verdict_lines v ++ best_lines v p.places) said p.lines l h))

wanted-step : (P : Project) (p q : Progress) (v : Verdict) (bs : List Branch) (said : List ReportLine) (l : ReportLine) → p.stage ≡ stages.Line v → Told (stages.Line v) p.places p.lines said → IsWantedStep P p v bs (Some l) (Ok q) → ToldBy q (said ++ l ∷ [])
wanted-step P p q v [] said l e h s = moves p q (end_stage v (Some l)) (said ++ l ∷ []) (end-tells p.places p.lines said v l h) s
wanted-step P p q v (b ∷ rest) said (texts.Log words) e h (inl x) = absurd (cc (x.1))
wanted-step P p q v (b ∷ rest) said (texts.Log words) e h (inr x) =
    subst (λ w. ToldBy q (said ++ texts.Log w ∷ [])) x.1 (judged-step P p q v b said x.0 e h x.2)
wanted-step P p q v (b ∷ rest) said _ e h s = absurd (cc)

-- Any line.

line-step : (P : Project) (p q : Progress) (s : Stage) (said : List ReportLine) (l : ReportLine) → p.stage ≡ s → Told s p.places p.lines said → IsLineStep P p s (Some l) (Ok q) → ToldBy q (said ++ l ∷ [])
line-step P p q stages.Title said l e h s = moves p q (title_stage (Some l)) (said ++ l ∷ []) (title-tells p.places p.lines said l h) s
line-step P p q stages.Kind said l e h s = moves p q (kind_stage (Some l)) (said ++ l ∷ []) (kind-tells p.places p.lines said l h) s
line-step P p q (stages.Duration k) said l e h s = moves p q (duration_stage k (Some l)) (said ++ l ∷ []) (duration-tells p.places p.lines said k l h) s
line-step P p q (stages.Lower k d) said l e h s = moves p q (lower_stage k d (Some l)) (said ++ l ∷ []) (lower-tells p.places p.lines said k d l h) s
line-step P p q (stages.Flag v) said l e h s = moves p q (flag_stage v (Some l)) (said ++ l ∷ []) (flag-tells p.places p.lines said v l h) s
line-step P p q (stages.Job v) said l e h s = job-step P p q v said l h s
line-step P p q (stages.Line v) said l e h s = wanted-step P p q v s.0 said l e h s.2
line-step P p q (stages.Ended v) said l e h s = absurd (cc)

wanted-none : (P : Project) (p q : Progress) (v : Verdict) (bs : List Branch) → IsWantedStep P p v bs None (Ok q) → ⊥
wanted-none P p q v [] s = absurd (cc)
wanted-none P p q v (b ∷ rest) s = absurd (cc)

-- bytes that are no line lead on nowhere
none-step : (P : Project) (p q : Progress) (s : Stage) → IsLineStep P p s None (Ok q) → ⊥
none-step P p q (stages.Line v) s = wanted-none P p q v s.0 s.2
none-step P p q stages.Title s = absurd (cc)
none-step P p q stages.Kind s = absurd (cc)
none-step P p q (stages.Duration k) s = absurd (cc)
none-step P p q (stages.Lower k d) s = absurd (cc)
none-step P p q (stages.Flag v) s = absurd (cc)
none-step P p q (stages.Job v) s = absurd (cc)
none-step P p q (stages.Ended v) s = absurd (cc)

-- the line that the bytes are, and what has been said with it
abbrev Said : List ℕ → List ReportLine → Progress → Type 0
Said w said q = (l : ReportLine) × IsLine l × (w ≡ line_text l) × ToldBy q (said ++ l ∷ [])

whole-said : (P : Project) (p q : Progress) (w : List ℕ) (said : List ReportLine) (o : Option ReportLine) → ToldBy p said → IsReadAs w o → IsLineStep P p p.stage o (Ok q) → Said w said q
whole-said P p q w said None h is s = absurd (none-step P p q p.stage s)
whole-said P p q w said (Some l) h is s = (l, is.0, is.1, line-step P p q p.stage said l refl h s)

step-said : (P : Project) (p q : Progress) (w : List ℕ) (said : List ReportLine) → ToldBy p said → IsStep P p w (Ok q) → Said w said q
step-said P p q w said h s = elim s.outcome [
  | inl x ↦ absurd (cc (x.1))
  | inr x ↦ elim x.1 [ inl y ↦ absurd (cc (y.1)) | inr y ↦ whole-said P p q w said y.1.0 h y.1.1 y.1.2 ]
]

-- Texts.

joined : List (List ℕ) → List ℕ
joined [] = []
joined (w ∷ ws) = w ++ 0x0A ∷ joined ws

-- a text that is cut at each LF, put together again
cut-back : (line bytes : List ℕ) → line ++ bytes ≡ joined (whole_from line bytes) ++ rest_from line bytes
unfolding whole_from rest_from joined
cut-back line [] = append-nil line
cut-back line (x ∷ xs) = elim (cases_Bool (is_line_end x)) [
  | inl end ↦
      let byte : x ≡ 0x0A = eqb-true x 0x0A end in
      let here : line ++ x ∷ xs ≡ (line ++ 0x0A ∷ joined (whole_from [] xs)) ++ rest_from [] xs =
      ap (λ (b : ℕ). line ++ b ∷ xs) byte ∙ ap (λ (bs : List ℕ). line ++ 0x0A ∷ bs) (cut-back [] xs) ∙ sym (append_assoc line (0x0A ∷ joined (whole_from [] xs)) (rest_from [] xs)) in
      rw end here
  | inr other ↦ let here = sym (append_assoc line (x ∷ []) xs) ∙ cut-back (line ++ x ∷ []) xs in rw other here
]

-- what has been said after these lines, and its text
record ToldAfter (q : Progress) (before : List ReportLine) (ws : List (List ℕ)) : Type 0 where
  pub said : List ReportLine
  pub told : ToldBy q said
  pub lines : AllByRecursion IsLine said
  pub text : text_of_lines said ≡ text_of_lines before ++ joined ws

all-more : (xs : List ReportLine) (l : ReportLine) → AllByRecursion IsLine xs → IsLine l → AllByRecursion IsLine (xs ++ l ∷ [])
all-more [] l all is = (is, tt)
all-more (x ∷ xs) l all is = (all.0, all-more xs l all.1 is)

text-more : (said : List ReportLine) (l : ReportLine) (w : List ℕ) (ws : List (List ℕ)) → w ≡ line_text l → text_of_lines (said ++ l ∷ []) ++ joined ws ≡ text_of_lines said ++ joined (w ∷ ws)
unfolding joined
text-more said l w ws e =
    ap (λ (bs : List ℕ). bs ++ joined ws) (text_of_parts said (l ∷ []) ∙ ap (λ (bs : List ℕ). text_of_lines said ++ bs) (text_of_line l ∙ ap (λ (bs : List ℕ). bs ++ 0x0A ∷ []) (sym e)))
    ∙ append_assoc (text_of_lines said) (w ++ 0x0A ∷ []) (joined ws) ∙ ap (λ (bs : List ℕ). text_of_lines said ++ bs) (append_assoc w (0x0A ∷ []) (joined ws))

leads-told : (P : Project) (p q : Progress) (ws : List (List ℕ)) (said : List ReportLine) → ToldBy p said → AllByRecursion IsLine said → Leads P p ws q → ToldAfter q said ws
unfolding joined
leads-told P p q [] said h all e = record { said = said; told = subst (λ (x : Progress). ToldBy x said) e h; lines = all; text = sym (append-nil (text_of_lines said)) }
leads-told P p q (w ∷ ws) said h all e =
    let s = step-said P p e.0 w said h e.1 in
    let r = leads-told P e.0 q ws (said ++ s.0 ∷ []) s.3 (all-more said s.0 all s.1) e.2 in
    record { said = r.said; told = r.told; lines = r.lines; text = r.text ∙ text-more said s.0 w ws s.2 }

-- the report that an accepted text is
unfoldable pub report_told : Verdict → Progress → Report
report_told v p = record { verdict = v; best = best_of (duration_of v) p.places; log = Some p.lines }

-- its lines are those of the text
pub record IsToldAs (bytes : List ℕ) (report : Report) : Type 0 where
  pub text : bytes ≡ text report
  pub lines : AllByRecursion IsLine (lines_of report)

in-parts : (a b c : List ReportLine) (l : ReportLine) → ((a ++ b) ++ c) ++ l ∷ [] ≡ a ++ (b ++ (c ++ l ∷ []))
in-parts a b c l = append_assoc (a ++ b) c (l ∷ []) ∙ append_assoc a b (c ++ l ∷ [])

pub accepted_told : (P : Project) (bytes : List ℕ) (v : Verdict) → (a : IsAcceptedAs P bytes v) → IsToldAs bytes (report_told v a.progress)
unfolding report_told joined
accepted_told P bytes v a =
    let r = leads-told P start a.progress (whole_lines bytes) [] (refl, refl, refl) tt a.leads in
    let told = subst (λ (s : Stage). Told s a.progress.places a.progress.lines r.said) a.ended r.told in
    let lines : r.said ≡ lines_of (report_told v a.progress) = told ∙ in-parts (verdict_lines v) (best_lines v a.progress.places) (texts.LogYes ∷ log_lines a.progress.lines) texts.End in
    let bytes_ : bytes ≡ joined (whole_lines bytes) = cut-back [] bytes ∙ ap (λ (bs : List ℕ). joined (whole_lines bytes) ++ bs) a.all ∙ append-nil (joined (whole_lines bytes)) in
    let said : text_of_lines r.said ≡ joined (whole_lines bytes) = r.text ∙ ap (λ (bs : List ℕ). bs ++ joined (whole_lines bytes)) nothing in
    record { text = bytes_ ∙ sym said ∙ ap text_of_lines lines; lines = subst (AllByRecursion IsLine) lines r.lines }

pub report_holds : (P : Project) (bytes : List ℕ) (v : Verdict) → (a : IsAcceptedAs P bytes v) → Holds P (report_told v a.progress)
unfolding report_told
report_holds P bytes v a =
    let h = subst (λ (s : Stage). Settled P s a.progress.places a.progress.lines) a.ended (leads-settled P start a.progress (whole_lines bytes) refl a.leads) in
    record { lines = a.progress.lines; is_its = refl; log = (good_law P v a.progress.lines).0 (h.1, a.served, a.lower); best = h.0 }

pub text_law : TextLaw
unfolding report_told
text_law P bytes v a = (report_told v a.progress, refl, (accepted_told P bytes v a).text, report_holds P bytes v a)
