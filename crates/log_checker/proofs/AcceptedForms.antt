-- The report that an accepted text is has the form of a report: its numbers are short, and its jobs and modes are bytes.
use Rattle.std.proofs.Common.{◌≡◌, ℕ, ◌+◌, ◌<◌, ◌≤◌, inl, inr, arith, refl, sym, subst, List, [], ◌∷◌, ◌++◌, length, Bool, true, false, cond, not, Option, Some, None}
use Rattle.std.specs.Prelude.{◌==◌, is_some, IfSome, All}
use Rattle.std.specs.List.{AllByRecursion}
use Rattle.std.proofs.lemmas.Bool.Decides.{nat_tests}
use Rattle.std.proofs.lemmas.List.Elements.{recursion_from_All, All-from_recursion}
use Rattle.rcpsp_model.specs.declared.parts.Placing.{Placing}
use Rattle.rcpsp_model.specs.declared.parts.Verdict.{Verdict}
use Rattle.rcpsp_model.specs.Project.{Project, IsWithinLimits, IsJob, IsMode, job_count}
use Rattle.rcpsp_model.specs.Schedule.{entries_from}
use Rattle.rcpsp_model.specs.Claim.{HasDuration}
use Rattle.rcpsp_model.proofs.Lists.{In, In-append}
use Rattle.rcpsp_model.proofs.Choices.{choice-is}
use Rattle.project_net.proofs.Limits.{few_modes}
use Rattle.proof_log.specs.declared.line.ReportLine.TheVariants as texts
use Rattle.proof_log.specs.declared.report.LogLine.{LogLine}
use Rattle.proof_log.specs.Line.{IsLine, IsNumber, IsPlace, is_shut}
use Rattle.proof_log.specs.Report.{duration_of, letter_of, IsInnerLine, IsLog, IsPlan}
use Rattle.proof_log.specs.Text.{best_part, log_words, log_lines}
use Rattle.proof_log.proofs.WrittenParts.{jobs_from}
use Rattle.log_truth.specs.Log.{Branch, at_root, by_choice, is_expanded, front_at, below, IsLineAt, AreLogs, IsTreeLog}
use Rattle.log_truth.specs.Holds.{Accepts}
use Rattle.log_truth.proofs.JoinedLogs.{below-is}
use Rattle.log_checker.specs.Checker.{IsAcceptedAs, AcceptsAs}
use Rattle.log_checker.proofs.SoundVerdicts.{best_of}
use Rattle.log_checker.proofs.AcceptedReports.{report_told, accepted_told, report_holds}

all-left : {X : Type 0} (Q : X → Type 0) (xs ys : List X) → AllByRecursion Q (xs ++ ys) → AllByRecursion Q xs
all-left Q [] ys all = tt
all-left Q (x ∷ xs) ys all = (all.0, all-left Q xs ys all.1)

all-right : {X : Type 0} (Q : X → Type 0) (xs ys : List X) → AllByRecursion Q (xs ++ ys) → AllByRecursion Q ys
all-right Q [] ys all = all
all-right Q (x ∷ xs) ys all = all-right Q xs ys all.1

-- The schedule.

starts-short : (j : ℕ) (ps : List Placing) → AllByRecursion IsLine (jobs_from j ps) → AllByRecursion (λ place. IsNumber place.start) ps
starts-short j [] all = tt
starts-short j (p ∷ ps) all = (all.0.2, starts-short (j + 1) ps all.1)

modes-bytes : (P : Project) (j : ℕ) (ps : List Placing) → IsWithinLimits P → 1 ≤ j → j + length ps ≤ job_count P + 1 → AllByRecursion (λ e. IsMode P e.job e.mode) (entries_from j ps) → AllByRecursion (λ place. place.mode < 256) ps
modes-bytes P j [] limits low high all = tt
modes-bytes P j (p ∷ ps) limits low high all =
    let few = few_modes P j limits (low, omega arith) in
    let mode = all.0.1 in
    (omega arith, modes-bytes P (j + 1) ps limits (omega arith) (omega arith) all.1)

record IsSchedule (d : Option ℕ) (best : Option (List Placing)) : Type 0 where
  pub has_best : is_some best ≡ is_some d
  pub plan : IfSome best IsPlan
  pub modes : IfSome best (All (λ place. place.mode < 256))

schedule-is : (P : Project) (d : Option ℕ) (places : List Placing) → IsWithinLimits P → HasDuration P d (best_of d places) → AllByRecursion IsLine (best_part (best_of d places)) → IsSchedule d (best_of d places)
unfolding best_of
schedule-is P None places limits h all = record { has_best = refl; plan = tt; modes = tt }
schedule-is P (Some d) places limits h all =
    let whole = h.feasible.whole in
    let few = limits.few_jobs in
    record {
      has_best = refl;
      plan = record { jobs = omega arith; starts = All-from_recursion (λ place. IsNumber place.start) places (starts-short 1 places all) };
      modes = All-from_recursion (λ place. place.mode < 256) places
          (modes-bytes P 1 places limits (omega arith) (omega arith) (recursion_from_All (λ e. IsMode P e.job e.mode) (entries_from 1 places) h.feasible.modes));
    }

-- The log.

abbrev IsInner : Project → Branch → Type 0
IsInner P at_root = ⊥
IsInner P (by_choice F c) = IsJob P c.job × IsMode P c.job c.mode

below-inner : (P : Project) (b : Branch) (l : LogLine) (x : Branch) → In (below P b l) x → IsInner P x
unfolding below
below-inner P b l x i =
    let s = below-is P (is_expanded l) (front_at b l) x i in
    let c = choice-is P s.front s.choice s.chosen in
    subst (IsInner P) s.branch (c.0.job, c.1)

place-by : (b c : Bool) (job mode : ℕ) (start : Option ℕ) (letter : ℕ) → b ≡ false → c ≡ false → IsPlace (cond b None (Some job)) (cond c None (Some mode)) start letter → IfSome start IsNumber × (is_some start ≡ not (is_shut letter))
place-by false false job mode start letter e d h = (h.2, h.3)
place-by true c job mode start letter e d h = absurd (cc)
place-by false true job mode start letter e d h = absurd (cc)

abbrev AreBytes : LogLine → Type 0
AreBytes line = (line.job < 256) × (line.mode < 256)

inner-line : (P : Project) (b : Branch) (l : LogLine) → IsWithinLimits P → IsInner P b → IsLineAt P b l → IsLine (texts.Log (log_words l)) → IsInnerLine l × AreBytes l
inner-line P at_root l limits inner at is = absurd inner
inner-line P (by_choice F c) l limits inner at is =
    let few = few_modes P c.job limits inner.0 in
    let jobs = limits.few_jobs in
    let low = inner.0.0 in
    let high = inner.0.1 in
    let least = inner.1.0 in
    let most = inner.1.1 in
    let job = at.job in
    let mode = at.mode in
    let some_job : 1 ≤ l.job = omega arith in
    let some_mode : 1 ≤ l.mode = omega arith in
    let place = place-by (l.job == 0) (l.mode == 0) l.job l.mode l.start (letter_of l.fate) (grind (arith, nat_tests)) (grind (arith, nat_tests)) is.place in
    (record { job = some_job; mode = some_mode; start = place.0; shut = place.1; number = is.number }, (omega arith, omega arith))

inner-logs : (P : Project) (bs : List Branch) (ls : List LogLine) → IsWithinLimits P → ((b : Branch) → In bs b → IsInner P b) → AreLogs P bs ls → AllByRecursion IsLine (log_lines ls) → AllByRecursion IsInnerLine ls × AllByRecursion AreBytes ls
inner-logs P bs [] limits inner logs all = (tt, tt)
inner-logs P [] (l ∷ ls) limits inner logs all = absurd logs
inner-logs P (b ∷ bs) (l ∷ ls) limits inner logs all =
    let here = inner-line P b l limits (inner b (inl refl)) logs.0 all.0 in
    let rest = inner-logs P (below P b l ++ bs) ls limits
    (λ x j. elim (In-append (below P b l) bs x j) [ inl low ↦ below-inner P b l x low | inr other ↦ inner x (inr other) ]) logs.1 all.1 in
    ((here.0, rest.0), (here.1, rest.1))

log-is : (P : Project) (ls : List LogLine) → IsWithinLimits P → IsTreeLog P ls → AllByRecursion IsLine (log_lines ls) → IsLog ls × All AreBytes ls
log-is P [] limits logs all = (tt, All-from_recursion AreBytes [] tt)
log-is P (l ∷ ls) limits logs all =
    let rest = inner-logs P (below P at_root l ++ []) ls limits
    (λ x j. elim (In-append (below P at_root l) [] x j) [ inl low ↦ below-inner P at_root l x low | inr no_ ↦ absurd no_ ]) logs.1 all.1 in
    let job = logs.0.job in
    let mode = logs.0.mode in (
      (record { job = job; mode = mode; start = logs.0.start; number = all.0.number }, All-from_recursion IsInnerLine ls rest.0),
      All-from_recursion AreBytes (l ∷ ls) ((omega arith, omega arith), rest.1),
    )

some-same : (a b : List LogLine) → Some a ≡ Some b → a ≡ b
some-same a b e = cc

-- what is accepted is the text of a report that holds
pub accepted-text : (P : Project) (bytes : List ℕ) (v : Verdict) → IsWithinLimits P → IsAcceptedAs P bytes v → AcceptsAs P bytes v
unfolding report_told
accepted-text P bytes v limits a =
    let told = accepted_told P bytes v a in
    let holds = report_holds P bytes v a in
    let places = a.progress.places in
    let lines = a.progress.lines in
    let rest = told.lines.1.1.1.1 in
    let best_lines = best_part (best_of (duration_of v) places) in
    let log_end = (texts.LogYes ∷ log_lines lines) ++ texts.End ∷ [] in
    let schedule = schedule-is P (duration_of v) places limits holds.best (all-left IsLine best_lines log_end rest) in
    let said = all-left IsLine (texts.LogYes ∷ log_lines lines) (texts.End ∷ []) (all-right IsLine best_lines log_end rest) in
    let log = log-is P lines limits (subst (IsTreeLog P) (sym (some-same lines holds.lines holds.is_its)) holds.log.log) said.1 in
    let text : Accepts P bytes = record {
      report = report_told v a.progress;
      form = record { duration = told.lines.1.1.0; lower = told.lines.1.1.1.0; has_best = schedule.has_best; best = schedule.plan; log = log.0 };
      narrow = record { modes = schedule.modes; log = log.1 };
      text = told.text;
      holds = holds;
    } in
    record { accepts = text; is_its = refl }
