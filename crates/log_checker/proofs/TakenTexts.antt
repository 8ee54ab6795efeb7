-- The text of a report that holds is accepted.
use Rattle.std.proofs.Common.{◌≡◌, ℕ, ◌+◌, ◌<◌, inl, inr, arith, refl, sym, ap, subst, ◌∙◌, List, [], ◌∷◌, ◌++◌, map, true, Option, Some, None}
use Rattle.std.specs.Prelude.{◌==◌, nat_lt, is_some, IfSome, if◌then◌else◌}
use Rattle.std.specs.List.{AllByRecursion}
use Rattle.std.proofs.lemmas.Bool.Decides.{nat_tests}
use Rattle.std.proofs.lemmas.List.Elements.{recursion_from_All}
use Rattle.sched_base.specs.declared.fate.Fate.{Fate}
use Rattle.sched_base.specs.declared.fate.Fate.TheVariants.{Left}
use Rattle.rcpsp_model.specs.declared.parts.Placing.{Placing}
use Rattle.rcpsp_model.specs.declared.parts.Verdict.{Verdict}
use Rattle.rcpsp_model.specs.declared.parts.Verdict.TheVariants as verdicts
use Rattle.rcpsp_model.specs.Project.{Project, IsWithinLimits, IsMode}
use Rattle.rcpsp_model.specs.Schedule.{entries}
use Rattle.rcpsp_model.specs.Claim.{HasDuration, EndsAt}
use Rattle.rcpsp_model.proofs.Lists.{In, In-from_Contains}
use Rattle.proof_log.specs.declared.line.ReportLine.{ReportLine}
use Rattle.proof_log.specs.declared.line.ReportLine.TheVariants as texts
use Rattle.proof_log.specs.declared.report.LogLine.{LogLine}
use Rattle.proof_log.specs.Line.{line_text, IsLine}
use Rattle.proof_log.specs.Report.{duration_of}
use Rattle.proof_log.specs.Text.{verdict_lines, best_part, log_lines, log_part, lines_of}
use Rattle.proof_log.proofs.OneReport.{lines_are_lines}
use Rattle.log_truth.specs.Fates.{saying, shuts, late_left}
use Rattle.log_truth.specs.Log.{Branch, at_root, says, below}
use Rattle.log_truth.specs.Holds.{Allows, IsLate, HasLower, Accepts}
use Rattle.log_truth.specs.Refusal.{IsGood, expanded_by, WantsFrom, Wants}
use Rattle.log_truth.proofs.LineFronts.{line-open}
use Rattle.log_truth.proofs.OneRefusal.{good-line, good_law}
use Rattle.log_checker.specs.declared.stage.Kind.TheVariants as kinds
use Rattle.log_checker.specs.declared.stage.Stage.{Stage}
use Rattle.log_checker.specs.declared.stage.Stage.TheVariants as stages
use Rattle.log_checker.specs.Progress.{Progress, start, moved, verdict_stage}
use Rattle.log_checker.specs.Refusal.{whole_lines, rest_of, Leads}
use Rattle.log_checker.specs.Checker.{IsAcceptedAs}
use Rattle.log_checker.proofs.TakenReports.{lines-whole, lines-rest, goes, at_log, at_end, log-leads}
use Rattle.log_checker.proofs.TakenHeads.{at_flag, job-leads}

-- The lower bound is below the duration.

-- a line that was left has a number below the duration
left-line : (P : Project) (v : Verdict) (k : ℕ) (b : Branch) (l : LogLine) (n d : ℕ) → duration_of v ≡ Some d → l.fate ≡ Left n → IsGood P v k b l → n < d
left-line P v k b l n d e left good =
    let front = line-open P b l (good-line P v k b l good) (ap (λ (f : Fate). shuts (saying f)) left) in
    let allowed : Allows P v front.0 (says l) = subst (λ o. IfSome o (λ F. Allows P v F (says l))) front.1 good.allowed in
    let late : IsLate P v front.0 (late_left n) = subst (λ (f : Fate). Allows P v front.0 (saying f)) left allowed in
    let low : late.number < d = subst (λ (o : Option ℕ). IfSome o (λ x. late.number < x)) e late.suffices.1 in
    let is : n ≡ late.number = late.late.2 in
    omega arith

left-below : (P : Project) (v : Verdict) (bs : List Branch) (k : ℕ) (ls : List LogLine) (n d : ℕ) → duration_of v ≡ Some d → WantsFrom P v bs k ls [] → In (map (λ line. line.fate) ls) (Left n) → n < d
left-below P v bs k [] n d e w i = absurd i
left-below P v [] k (l ∷ ls) n d e w i = absurd w
left-below P v (b ∷ bs) k (l ∷ ls) n d e w (inl left) = left-line P v k b l n d e left w.0
left-below P v (b ∷ bs) k (l ∷ ls) n d e w (inr i) = left-below P v (below P b l ++ bs) (k + expanded_by l) ls n d e w.1 i

abbrev IsBelow : Verdict → Type 0
IsBelow (verdicts.Limit (Some d) b) = b < d
IsBelow (verdicts.Limit None b) = Unit {0}
IsBelow (verdicts.Optimal d) = Unit {0}
IsBelow verdicts.Infeasible = Unit {0}

lower-below : (P : Project) (v : Verdict) (ls : List LogLine) → Wants P v ls [] → HasLower v ls → IsBelow v
lower-below P (verdicts.Limit (Some d) b) ls w lower = left-below P (verdicts.Limit (Some d) b) (at_root ∷ []) 0 ls b d refl w (In-from_Contains _ (Left b) lower.attained)
lower-below P (verdicts.Limit None b) ls w lower = tt
lower-below P (verdicts.Optimal d) ls w lower = tt
lower-below P verdicts.Infeasible ls w lower = tt

-- The lines of the verdict.

abbrev at_stage : Stage → Progress
at_stage stage = record { stage = stage; places = []; lines = [] }

-- behind them the job lines are wanted, where there is a duration
abbrev behind_verdict : Verdict → Progress
behind_verdict v = at_stage (if is_some (duration_of v) then stages.Job v else stages.Flag v)

same-number : (d : ℕ) → d == d ≡ true
same-number d = grind (arith, nat_tests)

less-number : (b d : ℕ) → b < d → nat_lt b d ≡ true
less-number b d low = grind (arith, nat_tests)

verdict-leads : (P : Project) (v : Verdict) (rest : List ReportLine) (r : Progress) → IsBelow v → AllByRecursion IsLine (verdict_lines v ++ rest) → Leads P (behind_verdict v) (map line_text rest) r →
    Leads P start (map line_text (verdict_lines v ++ rest)) r
verdict-leads P (verdicts.Optimal d) rest r low lines later =
    let kind = at_stage stages.Kind in
    let duration = at_stage (stages.Duration kinds.Optimal) in
    let lower = at_stage (stages.Lower kinds.Optimal (Some d)) in
    let v = verdicts.Optimal d in (
      kind,
      goes P start kind texts.Title refl lines.0 refl,
      (
        duration,
        goes P kind duration texts.Optimal refl lines.1.0 refl,
        (
          lower,
          goes P duration lower (texts.Duration (Some d)) refl lines.1.1.0 refl,
          (behind_verdict v, goes P lower (behind_verdict v) (texts.Lower (Some d)) refl lines.1.1.1.0 (sym (ap (λ b. moved lower (verdict_stage (if b then Some v else None))) (same-number d))), later),
        ),
      ),
    )
verdict-leads P verdicts.Infeasible rest r low lines later =
    let kind = at_stage stages.Kind in
    let duration = at_stage (stages.Duration kinds.Infeasible) in
    let lower = at_stage (stages.Lower kinds.Infeasible None) in
    let behind = behind_verdict verdicts.Infeasible in (
      kind,
      goes P start kind texts.Title refl lines.0 refl,
      (
        duration,
        goes P kind duration texts.Infeasible refl lines.1.0 refl,
        (
          lower,
          goes P duration lower (texts.Duration None) refl lines.1.1.0 refl,
          (behind, goes P lower behind (texts.Lower None) refl lines.1.1.1.0 refl, later),
        ),
      ),
    )
verdict-leads P (verdicts.Limit None b) rest r low lines later =
    let kind = at_stage stages.Kind in
    let duration = at_stage (stages.Duration kinds.Limit) in
    let lower = at_stage (stages.Lower kinds.Limit None) in
    let behind = behind_verdict (verdicts.Limit None b) in (
      kind,
      goes P start kind texts.Title refl lines.0 refl,
      (
        duration,
        goes P kind duration texts.Limit refl lines.1.0 refl,
        (
          lower,
          goes P duration lower (texts.Duration None) refl lines.1.1.0 refl,
          (behind, goes P lower behind (texts.Lower (Some b)) refl lines.1.1.1.0 refl, later),
        ),
      ),
    )
verdict-leads P (verdicts.Limit (Some d) b) rest r low lines later =
    let kind = at_stage stages.Kind in
    let duration = at_stage (stages.Duration kinds.Limit) in
    let lower = at_stage (stages.Lower kinds.Limit (Some d)) in
    let v = verdicts.Limit (Some d) b in (
      kind,
      goes P start kind texts.Title refl lines.0 refl,
      (
        duration,
        goes P kind duration texts.Limit refl lines.1.0 refl,
        (
          lower,
          goes P duration lower (texts.Duration (Some d)) refl lines.1.1.0 refl,
          (behind_verdict v, goes P lower (behind_verdict v) (texts.Lower (Some b)) refl lines.1.1.1.0 (sym (ap (λ c. moved lower (verdict_stage (if c then Some v else None))) (less-number b d low))), later),
        ),
      ),
    )

-- The job lines.

places_of : Option (List Placing) → List Placing
places_of None = []
places_of (Some places) = places

jobs-lead : (P : Project) (v : Verdict) (d : ℕ) (places : List Placing) (rest : List ReportLine) (r : Progress) → IsWithinLimits P → HasDuration P (duration_of v) (Some places) → EndsAt P d places → is_some (duration_of v) ≡ true →
    AllByRecursion IsLine (best_part (Some places) ++ rest) → Leads P (at_flag v places) (map line_text rest) r → Leads P (behind_verdict v) (map line_text (best_part (Some places) ++ rest)) r
jobs-lead P v d places rest r limits has ends some lines later =
    let few = limits.some_job in
    subst (λ b. Leads P (at_stage (if b then stages.Job v else stages.Flag v)) (map line_text (best_part (Some places) ++ rest)) r) (sym some)
    (job-leads P v places [] places 1 rest r has ends.feasible.whole refl (omega arith) (omega arith) (recursion_from_All (λ e. IsMode P e.job e.mode) (entries places) ends.feasible.modes) lines later)

best-leads : (P : Project) (v : Verdict) (best : Option (List Placing)) (rest : List ReportLine) (r : Progress) → IsWithinLimits P → HasDuration P (duration_of v) best → AllByRecursion IsLine (best_part best ++ rest) →
    Leads P (at_flag v (places_of best)) (map line_text rest) r → Leads P (behind_verdict v) (map line_text (best_part best ++ rest)) r
unfolding places_of
best-leads P (verdicts.Optimal d) (Some places) rest r limits has lines later = jobs-lead P (verdicts.Optimal d) d places rest r limits has has refl lines later
best-leads P (verdicts.Optimal d) None rest r limits has lines later = absurd has
best-leads P verdicts.Infeasible (Some places) rest r limits has lines later = absurd has
best-leads P verdicts.Infeasible None rest r limits has lines later = later
best-leads P (verdicts.Limit (Some d) b) (Some places) rest r limits has lines later = jobs-lead P (verdicts.Limit (Some d) b) d places rest r limits has has refl lines later
best-leads P (verdicts.Limit (Some d) b) None rest r limits has lines later = absurd has
best-leads P (verdicts.Limit None b) (Some places) rest r limits has lines later = absurd has
best-leads P (verdicts.Limit None b) None rest r limits has lines later = later

-- The flag and the log.

flag-leads : (P : Project) (v : Verdict) (places : List Placing) (ls : List LogLine) → Wants P v ls [] → AllByRecursion IsLine (texts.LogYes ∷ (log_lines ls ++ texts.End ∷ [])) →
    Leads P (at_flag v places) (map line_text (texts.LogYes ∷ (log_lines ls ++ texts.End ∷ []))) (at_end v places ls)
flag-leads P v places ls wants lines =
    (at_log v places [], goes P (at_flag v places) (at_log v places []) texts.LogYes refl lines.0 refl, log-leads P v places [] ls (at_root ∷ []) refl wants lines.1)

-- The text.

later-lines : (xs ys : List ReportLine) → AllByRecursion IsLine (xs ++ ys) → AllByRecursion IsLine ys
later-lines [] ys lines = lines
later-lines (x ∷ xs) ys lines = later-lines xs ys lines.1

pub text-accepted : (P : Project) (bytes : List ℕ) → IsWithinLimits P → (a : Accepts P bytes) → IsAcceptedAs P bytes a.report.verdict
text-accepted P bytes limits a =
    let report = a.report in
    let v = report.verdict in
    let ls = a.holds.lines in
    let places = places_of report.best in
    let good = (good_law P v ls).1 a.holds.log in
    let part : log_part report.log ++ texts.End ∷ [] ≡ texts.LogYes ∷ (log_lines ls ++ texts.End ∷ []) = ap (λ o. log_part o ++ texts.End ∷ []) a.holds.is_its in
    let lines = lines_are_lines report a.form a.narrow in
    let behind = lines.1.1.1.1 in
    let last = later-lines (best_part report.best) (log_part report.log ++ texts.End ∷ []) behind in
    let log : Leads P (at_flag v places) (map line_text (log_part report.log ++ texts.End ∷ [])) (at_end v places ls) =
    subst (λ xs. Leads P (at_flag v places) (map line_text xs) (at_end v places ls)) (sym part) (flag-leads P v places ls good.0 (subst (AllByRecursion IsLine) part last)) in
    let best = best-leads P v report.best (log_part report.log ++ texts.End ∷ []) (at_end v places ls) limits a.holds.best behind log in
    let all = verdict-leads P v (best_part report.best ++ (log_part report.log ++ texts.End ∷ [])) (at_end v places ls) (lower-below P v ls good.0 good.2) lines best in
    record {
      progress = at_end v places ls;
      leads = subst (λ ws. Leads P start ws (at_end v places ls)) (sym (ap whole_lines a.text ∙ lines-whole (lines_of report) lines)) all;
      ended = refl;
      all = ap rest_of a.text ∙ lines-rest (lines_of report) lines;
      served = good.1;
      lower = good.2;
    }
