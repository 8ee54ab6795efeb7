-- What the lines of a report say up to one of them, and what the next line leads to.
use Rattle.std.specs.Prelude.{◌≡◌, ℕ, ◌+◌, ◌≤◌, ◌==◌, nat_lt, Bool, true, false, if◌then◌else◌, Option, Some, None, is_some, is_none, Result, Ok, Err, ◌⊎◌, List, [], ◌∷◌, ◌++◌, length}
use Rattle.rcpsp_model.specs.declared.parts.Placing.{Placing}
use Rattle.rcpsp_model.specs.declared.parts.Verdict.{Verdict}
use Rattle.rcpsp_model.specs.declared.parts.Verdict.TheVariants as verdicts
use Rattle.rcpsp_model.specs.Project.{Project, job_count, IsMode}
use Rattle.rcpsp_model.specs.Claim.{HasDuration}
use Rattle.proof_log.specs.declared.line.LogWords.{LogWords}
use Rattle.proof_log.specs.declared.line.ReportLine.{ReportLine}
use Rattle.proof_log.specs.declared.line.ReportLine.TheVariants as texts
use Rattle.proof_log.specs.declared.line_reader.TheConstants.{LONGEST_LINE}
use Rattle.proof_log.specs.declared.report.LogLine.{LogLine}
use Rattle.proof_log.specs.Line.{line_text, IsLine}
use Rattle.proof_log.specs.Report.{duration_of}
use Rattle.proof_log.specs.Text.{log_words}
use Rattle.log_truth.specs.Log.{Branch}
use Rattle.log_truth.specs.Holds.{expanded_in}
use Rattle.log_truth.specs.Refusal.{Fault, IsGood, HasFault, Wants}
use Rattle.log_checker.specs.declared.reason.Reason.{Reason}
use Rattle.log_checker.specs.declared.reason.Reason.TheVariants.{BadLine, WrongChild, BadSchedule, BadVerdict, LinesLeft}
use Rattle.log_checker.specs.declared.stage.Kind.{Kind}
use Rattle.log_checker.specs.declared.stage.Kind.TheVariants as kinds
use Rattle.log_checker.specs.declared.stage.Stage.{Stage}
use Rattle.log_checker.specs.declared.stage.Stage.TheVariants as stages
use Rattle.log_checker.specs.Reasons.{reason_of}

-- which line is wanted, the placings of the job lines so far, and the lines of the log so far
pub record Progress : Type 0 where
  pub stage : Stage
  pub places : List Placing
  pub lines : List LogLine

abbrev pub start : Progress
start = record { stage = stages.Title; places = []; lines = [] }

abbrev pub at : Progress → Stage → Progress
at p stage = record { stage = stage; places = p.places; lines = p.lines }

-- what a line comes to: it breaks a rule, or leads on
abbrev pub Outcome : Type 0
Outcome = Result Progress Reason

-- the rule is broken, which is the outcome; or it is kept, and the outcome is a later one
abbrev pub Unless : Type 0 → Reason → Outcome → Type 0 → Type 0
Unless Rule reason out later = ((Rule → ⊥) × (out ≡ Err reason)) ⊎ (Rule × later)

-- Lines whose text alone decides.

abbrev pub title_stage : Option ReportLine → Result Stage Reason
title_stage (Some texts.Title) = Ok stages.Kind
title_stage _ = Err BadLine

abbrev pub kind_stage : Option ReportLine → Result Stage Reason
kind_stage (Some texts.Optimal) = Ok (stages.Duration kinds.Optimal)
kind_stage (Some texts.Infeasible) = Ok (stages.Duration kinds.Infeasible)
kind_stage (Some texts.Limit) = Ok (stages.Duration kinds.Limit)
kind_stage _ = Err BadLine

-- an optimal schedule has a duration, and where nothing is feasible there is none
abbrev pub allows_duration : Kind → Option ℕ → Bool
allows_duration kinds.Optimal duration = is_some duration
allows_duration kinds.Infeasible duration = is_none duration
allows_duration kinds.Limit duration = true

abbrev pub duration_stage : Kind → Option ReportLine → Result Stage Reason
duration_stage kind (Some (texts.Duration duration)) = if allows_duration kind duration then Ok (stages.Lower kind duration) else Err BadVerdict
duration_stage kind _ = Err BadLine

-- the verdict by its kind, its duration and its lower bound: an optimal duration is the bound, and at the limit the bound is
-- below the duration, if there is one
abbrev pub verdict_by : Kind → Option ℕ → Option ℕ → Option Verdict
verdict_by kinds.Optimal (Some d) (Some b) = if b == d then Some (verdicts.Optimal d) else None
verdict_by kinds.Infeasible None None = Some verdicts.Infeasible
verdict_by kinds.Limit None (Some b) = Some (verdicts.Limit None b)
verdict_by kinds.Limit (Some d) (Some b) = if nat_lt b d then Some (verdicts.Limit (Some d) b) else None
verdict_by _ _ _ = None

-- job lines stand where there is a duration
abbrev pub verdict_stage : Option Verdict → Result Stage Reason
verdict_stage None = Err BadVerdict
verdict_stage (Some verdict) = if is_some (duration_of verdict) then Ok (stages.Job verdict) else Ok (stages.Flag verdict)

abbrev pub lower_stage : Kind → Option ℕ → Option ReportLine → Result Stage Reason
lower_stage kind duration (Some (texts.Lower bound)) = verdict_stage (verdict_by kind duration bound)
lower_stage kind duration _ = Err BadLine

abbrev pub flag_stage : Verdict → Option ReportLine → Result Stage Reason
flag_stage verdict (Some texts.LogYes) = Ok (stages.Line verdict)
flag_stage verdict _ = Err BadLine

abbrev pub head_stage : Stage → Option ReportLine → Result Stage Reason
head_stage stages.Title line = title_stage line
head_stage stages.Kind line = kind_stage line
head_stage (stages.Duration kind) line = duration_stage kind line
head_stage (stages.Lower kind duration) line = lower_stage kind duration line
head_stage (stages.Flag verdict) line = flag_stage verdict line
head_stage (stages.Job verdict) line = Err BadLine
head_stage (stages.Line verdict) line = Err BadLine
head_stage (stages.Ended verdict) line = Err BadLine

abbrev pub moved : Progress → Result Stage Reason → Outcome
moved p (Ok stage) = Ok (at p stage)
moved p (Err reason) = Err reason

-- Job lines.

abbrev pub placed : Progress → ℕ → ℕ → List Placing
placed p mode start = p.places ++ record { mode = mode; start = start } ∷ []

-- where each job has its line, they are a feasible schedule that ends at the duration
abbrev pub IsRightPlan : Project → Verdict → List Placing → Type 0
IsRightPlan P verdict places = length places ≡ job_count P → HasDuration P (duration_of verdict) (Some places)

abbrev pub after_job : Project → Verdict → Progress → List Placing → Progress
after_job P verdict p places = record { stage = if length places == job_count P then stages.Flag verdict else stages.Job verdict; places = places; lines = p.lines }

-- the line of the next job, with one of its modes
abbrev pub IsJobStep : Project → Progress → Verdict → Option ReportLine → Outcome → Type 0
IsJobStep P p verdict (Some (texts.Job job mode start)) out =
    Unless (job ≡ length p.places + 1) BadLine out
    (Unless (IsMode P job mode) BadSchedule out
    (Unless (IsRightPlan P verdict (placed p mode start)) BadSchedule out
    (out ≡ Ok (after_job P verdict p (placed p mode start)))))
IsJobStep P p verdict _ out = out ≡ Err BadLine

-- Lines of the log.

-- the line breaks a rule of the log, or none
abbrev pub IsJudgedStep : Project → Progress → Verdict → Branch → LogLine → Outcome → Type 0
IsJudgedStep P p verdict branch line out =
    ((fault : Fault) × HasFault P verdict (expanded_in p.lines) branch line fault × (out ≡ Err (reason_of fault)))
    ⊎ (IsGood P verdict (expanded_in p.lines) branch line × (out ≡ Ok (record { stage = p.stage; places = p.places; lines = p.lines ++ line ∷ [] })))

-- words that no line has, since a job or a mode is written as 0, aren't those of the next child
abbrev pub IsWordsStep : Project → Progress → Verdict → Branch → LogWords → Outcome → Type 0
IsWordsStep P p verdict branch words out =
    (((line : LogLine) → log_words line ≡ words → ⊥) × (out ≡ Err WrongChild))
    ⊎ ((line : LogLine) × (log_words line ≡ words) × IsJudgedStep P p verdict branch line out)

abbrev pub end_stage : Verdict → Option ReportLine → Result Stage Reason
end_stage verdict (Some texts.End) = Ok (stages.Ended verdict)
end_stage verdict _ = Err LinesLeft

-- where these branches are wanted: the line of the first of them; where none is, the last line
abbrev pub IsWantedStep : Project → Progress → Verdict → List Branch → Option ReportLine → Outcome → Type 0
IsWantedStep P p verdict [] line out = out ≡ moved p (end_stage verdict line)
IsWantedStep P p verdict (branch ∷ rest) (Some (texts.Log words)) out = IsWordsStep P p verdict branch words out
IsWantedStep P p verdict (branch ∷ rest) (Some texts.End) out = out ≡ Err WrongChild
IsWantedStep P p verdict (branch ∷ rest) _ out = out ≡ Err BadLine

abbrev pub IsLogStep : Project → Progress → Verdict → Option ReportLine → Outcome → Type 0
IsLogStep P p verdict line out = (wanted : List Branch) × Wants P verdict p.lines wanted × IsWantedStep P p verdict wanted line out

-- Any line.

abbrev pub IsLineStep : Project → Progress → Stage → Option ReportLine → Outcome → Type 0
IsLineStep P p (stages.Job verdict) line out = IsJobStep P p verdict line out
IsLineStep P p (stages.Line verdict) line out = IsLogStep P p verdict line out
IsLineStep P p (stages.Ended verdict) line out = out ≡ Err LinesLeft
IsLineStep P p stages.Title line out = out ≡ moved p (head_stage stages.Title line)
IsLineStep P p stages.Kind line out = out ≡ moved p (head_stage stages.Kind line)
IsLineStep P p (stages.Duration kind) line out = out ≡ moved p (head_stage (stages.Duration kind) line)
IsLineStep P p (stages.Lower kind duration) line out = out ≡ moved p (head_stage (stages.Lower kind duration) line)
IsLineStep P p (stages.Flag verdict) line out = out ≡ moved p (head_stage (stages.Flag verdict) line)

-- the line that the bytes are; none where they are no line
abbrev pub IsReadAs : List ℕ → Option ReportLine → Type 0
IsReadAs bytes (Some line) = IsLine line × (bytes ≡ line_text line)
IsReadAs bytes None = (line : ReportLine) → IsLine line → bytes ≡ line_text line → ⊥

abbrev pub is_ended : Stage → Bool
is_ended (stages.Ended verdict) = true
is_ended stages.Title = false
is_ended stages.Kind = false
is_ended (stages.Duration kind) = false
is_ended (stages.Lower kind duration) = false
is_ended (stages.Job verdict) = false
is_ended (stages.Flag verdict) = false
is_ended (stages.Line verdict) = false

-- what the line that the bytes are leads to
abbrev pub IsWholeStep : Project → Progress → List ℕ → Outcome → Type 0
IsWholeStep P p bytes out = (line : Option ReportLine) × IsReadAs bytes line × IsLineStep P p p.stage line out

-- what a whole line leads to: nothing may stand behind the last line, and no line may be too long
pub record IsStep (P : Project) (p : Progress) (bytes : List ℕ) (out : Outcome) : Type 0 where
  pub outcome : Unless (is_ended p.stage ≡ false) LinesLeft out
      (Unless (length bytes ≤ LONGEST_LINE) BadLine out
      (IsWholeStep P p bytes out))
