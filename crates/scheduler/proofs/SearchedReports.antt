-- What was found is the report that `solve` promises.
use Rattle.std.proofs.Common.{◌≡◌, ℕ, ◌<◌, ◌≤◌, refl, sym, ap, subst, ◌∙◌, arith, Bool, true, false, Option, Some, None, List}
use Rattle.rcpsp_model.specs.declared.parts.Verdict.{Verdict}
use Rattle.rcpsp_model.specs.Project.{Project, IsProject}
use Rattle.rcpsp_model.specs.Schedule.{end_of, entries}
use Rattle.proof_log.specs.declared.report.LogLine.{LogLine}
use Rattle.proof_log.specs.declared.report.Report.{Report}
use Rattle.proof_log.specs.Report.{duration_of, IsReport}
use Rattle.log_truth.specs.Holds.{LogHolds}
use Rattle.log_truth.specs.Laws as truth
use Rattle.search_log.specs.Lean.{end_number, of_first}
use Rattle.search_rounds.specs.declared.found.Found.{Found}
use Rattle.search_rounds.specs.declared.found.Ended.{Ended}
use Rattle.search_rounds.specs.Found.{IsEnded, end_of_plan, report_of, IsFoundBy, IsUntold, HasEnded}
use Rattle.search_rounds.specs.Laws as search
use Rattle.serial_scheme.proofs.PlanFacts.{first-end}
use Rattle.scheduler.specs.Solve.{IsLeanFromStart, IsEndedFromStart, IsFoundFromStart, IsSolution, IsDoneBy, IsNoLaterThanFirst, with_log, IsSearched}
use Rattle.scheduler.proofs.TwinLines.{no_twins}
use Rattle.scheduler.proofs.Starts.{start_no_later}
use Rattle.scheduler.proofs.CountedFronts.{limit_ends, fronts_suffice}

-- Of the end of a search with the start that was asked for, this may be said of what it found.

pub has_ended : (P : Project) (workers nodes tries : ℕ) (e : Ended) → IsEndedFromStart P workers nodes tries e → HasEnded e
has_ended P workers nodes tries e is = (P, workers, nodes, end_of_plan P is.plan, is.ended)

pub found_by : (P : Project) (workers nodes tries : ℕ) (e : Ended) (f : Found) → nodes ≤ 100000 → IsEndedFromStart P workers nodes tries e → IsFoundBy e f → IsFoundFromStart P workers nodes tries f
found_by P workers nodes tries e f small is by = record { plan = is.plan; start = is.start; found = by P workers nodes (end_of_plan P is.plan) small is.ended }

-- the report without its log is that of something that was found
pub record IsUntoldFromStart (P : Project) (workers nodes tries : ℕ) (told : Report) : Type 0 where
  pub found : Found
  pub is_found : IsFoundFromStart P workers nodes tries found
  pub same : told ≡ with_log false (report_of found)

pub untold_by : (P : Project) (workers nodes tries : ℕ) (e : Ended) (told : Report) → IsEndedFromStart P workers nodes tries e → ((first : Option ℕ) → IsEnded P workers nodes first e → IsUntold P workers first nodes told) →
    IsUntoldFromStart P workers nodes tries told
untold_by P workers nodes tries e told is by =
    let x = by (end_of_plan P is.plan) is.ended in
    record { found = x.found; is_found = record { plan = is.plan; start = is.start; found = x.is_found }; same = x.untold }

-- what is told is as it was asked for
pub as_asked : (log way : Bool) (told report : Report) → log ≡ way → told ≡ with_log way report → told ≡ with_log log report
as_asked log way told report e same = same ∙ ap (λ (b : Bool). with_log b report) (sym e)

-- The promise.

done-by : (o : Option ℕ) (n : ℕ) → end_number o ≤ n → n < 4294967295 → IsDoneBy o n
done-by None n le few = absurd (omega (arith, le, few))
done-by (Some d) n le few = le

no-later : (P : Project) (workers tries : ℕ) (verdict : Verdict) (lines : List LogLine) → IsProject P → IsLeanFromStart P workers tries verdict lines → IsNoLaterThanFirst P verdict
no-later P workers tries verdict lines p lean plan first =
    let soon : end_of P (entries plan) ≤ 1290000 = first-end P p (Some plan) first in
    let at : end_number (end_of_plan P lean.plan) ≤ end_of P (entries plan) = start_no_later P tries lean.plan plan p lean.start first in
    let low = lean.lean.lean.duration_least.least (end_number (end_of_plan P lean.plan)) (of_first refl) in
    done-by (duration_of verdict) (end_of P (entries plan)) (omega (arith, low, at)) (omega (arith, soon))

solution : search.ReportLaw → truth.HoldsLaw → (P : Project) (workers nodes tries : ℕ) (f : Found) → IsProject P → IsFoundFromStart P workers nodes tries f → IsSolution P workers nodes tries (report_of f)
solution texts truths P workers nodes tries f p is =
    let found = is.found in
    let holds = found.holds in
    let form = texts P workers nodes (end_of_plan P is.plan) f p found in
    let same : Some f.log ≡ Some holds.lines = holds.is_its in
    let log : holds.lines ≡ f.log = cc in
    let log_holds = subst (LogHolds P f.verdict) log holds.log in
    record {
      holds = holds;
      claim = truths P (report_of f) p.acyclic holds;
      accepted = record { report = report_of f; form = form.0; narrow = form.1; text = refl; holds = holds };
      lines = f.log;
      log = refl;
      limit = λ limit. limit_ends P nodes f.verdict f.log log_holds limit (found.limit limit);
      lean = record { plan = is.plan; start = is.start; starts = f.starts; origins = f.origins; lean = found.lean };
    }

pub searched : search.ReportLaw → truth.HoldsLaw → (P : Project) (workers nodes tries : ℕ) (log : Bool) (f : Found) (told : Report) → IsProject P → IsFoundFromStart P workers nodes tries f →
    told ≡ with_log log (report_of f) → IsSearched P workers nodes tries log told
unfolding solution
searched texts truths P workers nodes tries log f told p is same =
    let found = solution texts truths P workers nodes tries f p is in
    let holds = is.found.holds in
    let lines : Some f.log ≡ Some holds.lines = holds.is_its in
    let own : holds.lines ≡ f.log = cc in
    let log_holds = subst (LogHolds P f.verdict) own holds.log in
    record {
      whole = report_of f;
      is_told = same;
      solution = found;
      no_later = no-later P workers tries f.verdict f.log p found.lean;
      no_twins = λ one lines' is_its i k twins.
          let given : f.log ≡ lines' = cc in
          let log' = subst (λ (ls : List LogLine). LogHolds P f.verdict ls) given log_holds in
          no_twins P tries f.verdict lines' log'.log (subst (λ (ls : List LogLine). IsLeanFromStart P 1 tries f.verdict ls) given (subst (λ (w : ℕ). IsLeanFromStart P w tries f.verdict f.log) one found.lean)) i k twins;
      ends = λ few limit. fronts_suffice P nodes f.verdict f.log log_holds few (found.limit limit);
    }

-- a report has a text without its log too
pub text_with_log : (log : Bool) (report : Report) → IsReport report → IsReport (with_log log report)
text_with_log true report is = is
text_with_log false report is = record { duration = is.duration; lower = is.lower; has_best = is.has_best; best = is.best; log = tt }

pub told_text : search.ReportLaw → (P : Project) (workers nodes tries : ℕ) (log : Bool) (f : Found) (told : Report) → IsProject P → IsFoundFromStart P workers nodes tries f → told ≡ with_log log (report_of f) → IsReport told
told_text texts P workers nodes tries log f told p is same = subst IsReport (sym same) (text_with_log log (report_of f) (texts P workers nodes (end_of_plan P is.plan) f p is.found).0)
