-- The end of a report.
use Rattle.std.proofs.Common.{◌≡◌, ℕ, ◌+◌, ◌≤◌, inl, inr, arith, refl, sym, ap, subst, ◌∙◌, List, [], ◌∷◌, length, true, false, Some, None}
use Rattle.std.specs.Prelude.{◌⊎◌, Err}
use Rattle.std.proofs.lemmas.List.{append-nil}
use Rattle.rcpsp_model.specs.declared.parts.Verdict.{Verdict}
use Rattle.rcpsp_model.specs.Project.{Project, IsWithinLimits}
use Rattle.proof_log.specs.Lines.{ReaderState}
use Rattle.log_truth.specs.Holds.{HasLower}
use Rattle.log_checker.specs.declared.course.Course.{Course}
use Rattle.log_checker.specs.declared.refused.Refused.{Refused}
use Rattle.log_checker.specs.declared.refused.Refused.TheVariants.{Report, NoMemory}
use Rattle.log_checker.specs.declared.reason.Reason.{Reason}
use Rattle.log_checker.specs.declared.reason.Reason.TheVariants.{BadVerdict, BadCitation, TextEnds}
use Rattle.log_checker.specs.declared.stage.Stage.{Stage}
use Rattle.log_checker.specs.declared.stage.Stage.TheVariants as stages
use Rattle.log_checker.specs.Reasons.{number_of}
use Rattle.log_checker.specs.Progress.{Progress, start, is_ended}
use Rattle.log_checker.specs.Refusal.{whole_lines, rest_of, Leads, IsFirst, IsEarly, behind_end, IsQuiet, IsBroken, IsRefusal, AtEnd, AfterLog, unserved, not_least, lines_before}
use Rattle.log_checker.specs.Walk.{Stands}
use Rattle.log_checker.specs.Citations.{IsFirstOf}
use Rattle.log_checker.specs.Course.{HoldsLog}
use Rattle.log_checker.specs.Checker.{CheckerState, Runs, StandsAs, StandsFor, IsOutcome, IsAcceptedAs}
use Rattle.log_checker.proofs.RoomForNumbers.{few-lines, few-parts}
use Rattle.log_checker.proofs.TextLines.{first-append}

abbrev pub Behind : Project → List ℕ → Progress → ℕ → ℕ → Reason → Type 0
Behind P rest p i n r = ((n ≡ i) × IsEarly p rest r) ⊎ (IsQuiet p rest × AtEnd P p p.stage i n r)

-- what breaks a rule at once is refused at the end too
first-broken : (P : Project) (rest : List ℕ) (p : Progress) (i : ℕ) (ls : List (List ℕ)) (n : ℕ) (r : Reason) → IsFirst P (λ p i k r. (k ≡ i) × IsEarly p rest r) p i ls n r → IsFirst P (Behind P rest) p i ls n r
first-broken P rest p i [] n r h = inl h
first-broken P rest p i (l ∷ ls) n r (inl h) = inl h
first-broken P rest p i (l ∷ ls) n r (inr h) = inr (h.0, h.1, first-broken P rest h.0 (i + 1) ls n r h.2)

pub broken-refused : (P : Project) (bytes : List ℕ) (n : ℕ) (r : Reason) → IsBroken P bytes n r → IsRefusal P bytes n r
broken-refused P bytes n r h = first-broken P (rest_of bytes) start 1 (whole_lines bytes) n r h

-- lines that break no rule, and what comes behind them and breaks one
pub behind-refused : (P : Project) (p : Progress) (bytes : List ℕ) (n : ℕ) (r : Reason) → Leads P start (whole_lines bytes) p → Behind P (rest_of bytes) p (1 + length (whole_lines bytes)) n r → IsRefusal P bytes n r
behind-refused P p bytes n r leads h =
    subst (λ (ls : List (List ℕ)). IsFirst P (Behind P (rest_of bytes)) start 1 ls n r) (append-nil (whole_lines bytes))
    (first-append P (Behind P (rest_of bytes)) start p 1 (whole_lines bytes) [] n r leads h)

-- what breaks no rule at once, and one at the end
end-refused : (P : Project) (p : Progress) (bytes : List ℕ) (n : ℕ) (r : Reason) → Leads P start (whole_lines bytes) p → IsQuiet p (rest_of bytes) → AtEnd P p p.stage (1 + length (whole_lines bytes)) n r → IsRefusal P bytes n r
end-refused P p bytes n r leads quiet h = behind-refused P p bytes n r leads (inr (quiet, h))

not-ended : (P : Project) (p : Progress) (s : Stage) (i : ℕ) → is_ended s ≡ false → AtEnd P p s i i TextEnds
not-ended P p (stages.Ended v) i off = absurd (cc)
not-ended P p stages.Title i off = (refl, refl)
not-ended P p stages.Kind i off = (refl, refl)
not-ended P p (stages.Duration k) i off = (refl, refl)
not-ended P p (stages.Lower k d) i off = (refl, refl)
not-ended P p (stages.Job v) i off = (refl, refl)
not-ended P p (stages.Flag v) i off = (refl, refl)
not-ended P p (stages.Line v) i off = (refl, refl)

pub not-ended-stage : (s : Stage) → ((v : Verdict) → s ≡ stages.Ended v → ⊥) → is_ended s ≡ false
not-ended-stage (stages.Ended v) h = absurd (h v refl)
not-ended-stage stages.Title h = refl
not-ended-stage stages.Kind h = refl
not-ended-stage (stages.Duration k) h = refl
not-ended-stage (stages.Lower k d) h = refl
not-ended-stage (stages.Job v) h = refl
not-ended-stage (stages.Flag v) h = refl
not-ended-stage (stages.Line v) h = refl

pub nothing-left : (p : Progress) (rest : List ℕ) → is_ended p.stage ≡ true → IsQuiet p rest → rest ≡ []
nothing-left p [] e quiet = refl
nothing-left p (b ∷ rest) e quiet = absurd (quiet _ (behind_end e (omega arith)))

-- Where the bytes break no rule at once.
module _ (P : Project) (reader : ReaderState) (number : ℕ) (course : Course) (bytes : List ℕ) (limits : IsWithinLimits P) (r : Runs P reader number course bytes) where
  -- the last line hasn't come
  pub text-ends : is_ended course.stage ≡ false → IsOutcome P bytes (Err (Report number (number_of TextEnds)))
  text-ends off =
      let few = few-lines P r.progress (whole_lines bytes) limits r.leads in
      let is = r.number_is in
      let exact : 1 + length (whole_lines bytes) ≡ number = omega arith in (
        TextEnds,
        refl,
        subst (λ (n : ℕ). IsRefusal P bytes n TextEnds) exact
            (end-refused P r.progress bytes (1 + length (whole_lines bytes)) TextEnds r.leads r.quiet
            (not-ended P r.progress r.progress.stage (1 + length (whole_lines bytes)) (ap is_ended (sym r.holds.stage) ∙ off))),
      )

  -- it has
  module _ (verdict : Verdict) (e : course.stage ≡ stages.Ended verdict) where
    stage-is : r.progress.stage ≡ stages.Ended verdict
    stage-is = sym r.holds.stage ∙ e

    pub log-stands : Stands P verdict course.walk r.progress.lines
    log-stands = let h = subst (λ (s : Stage). HoldsLog P s course.walk r.progress.lines) stage-is r.holds.log in h.0

    after-log : (n : ℕ) (reason : Reason) → AfterLog P verdict r.progress n reason → IsRefusal P bytes n reason
    after-log n reason h =
        end-refused P r.progress bytes n reason r.leads r.quiet (subst (λ (s : Stage). AtEnd P r.progress s (1 + length (whole_lines bytes)) n reason) (sym stage-is) h)

    pub not-served : (m line : ℕ) → IsFirstOf P r.progress.lines (Some m) → (length course.places ≤ 128 → m ≤ 51200001 → line ≡ 5 + length course.places + m) → IsOutcome P bytes (Err (Report line (number_of BadCitation)))
    not-served m line first is =
        let fits = few-parts P r.progress (whole_lines bytes) limits r.leads in
        let few = fits.places in let most = fits.lines in let low = first.1 in
        let same = ap length r.holds.places in
        let at = is (omega arith) (omega arith) in
        let exact : lines_before r.progress + m ≡ line = omega arith in
        (BadCitation, refl, subst (λ (n : ℕ). IsRefusal P bytes n BadCitation) exact (after-log (lines_before r.progress + m) BadCitation (unserved m first.0)))

    pub not-lower : IsFirstOf P r.progress.lines None → (HasLower verdict r.progress.lines → ⊥) → IsOutcome P bytes (Err (Report 4 (number_of BadVerdict)))
    not-lower served other = (BadVerdict, refl, after-log 4 BadVerdict (not_least served other))

    pub accepted : IsFirstOf P r.progress.lines None → HasLower verdict r.progress.lines → IsAcceptedAs P bytes verdict
    accepted served lower = record {
      progress = r.progress;
      leads = r.leads;
      ended = stage-is;
      all = nothing-left r.progress (rest_of bytes) (ap is_ended stage-is) r.quiet;
      served = served;
      lower = lower;
    }

-- what was refused is refused
pub stands-finished : (c : CheckerState) (bytes : List ℕ) (r : Refused) → c.refused ≡ Some r → StandsFor c bytes → IsOutcome c.project bytes (Err r)
stands-finished c bytes r e s = by r (subst (StandsAs c bytes) e s)
  where
    by : (x : Refused) → StandsAs c bytes (Some x) → IsOutcome c.project bytes (Err x)
    by (Report line number) h = (h.0, h.1, broken-refused c.project bytes line h.0 h.2)
    by NoMemory h = tt
