-- The text of a report, version 1.
use Rattle.std.specs.Prelude.{ℕ, ◌==◌, if◌then◌else◌, Option, Some, None, List, [], ◌∷◌, ◌++◌, map, flat_map}
use Rattle.rcpsp_model.specs.declared.parts.Placing.{Placing}
use Rattle.rcpsp_model.specs.declared.parts.Verdict.{Verdict}
use Rattle.rcpsp_model.specs.declared.parts.Verdict.TheVariants as verdicts
use Rattle.rcpsp_model.specs.Schedule.{entries}
use Rattle.proof_log.specs.declared.line.LogWords.{LogWords}
use Rattle.proof_log.specs.declared.line.ReportLine.{ReportLine}
use Rattle.proof_log.specs.declared.line.ReportLine.TheVariants.{Title, Optimal, Infeasible, Limit, Duration, Lower, Job, LogYes, LogNo, Log, End}
use Rattle.proof_log.specs.declared.report.LogLine.{LogLine}
use Rattle.proof_log.specs.declared.report.Report.{Report}
use Rattle.proof_log.specs.Line.{line_text}
use Rattle.proof_log.specs.Report.{duration_of, lower_of, letter_of, fate_number}

abbrev pub verdict_line : Verdict → ReportLine
verdict_line (verdicts.Optimal duration) = Optimal
verdict_line verdicts.Infeasible = Infeasible
verdict_line (verdicts.Limit duration lower) = Limit

-- the title, and what the verdict says
abbrev pub verdict_lines : Verdict → List ReportLine
verdict_lines verdict = Title ∷ verdict_line verdict ∷ Duration (duration_of verdict) ∷ Lower (lower_of verdict) ∷ []

-- a line for each job, in the order of the jobs
abbrev pub job_lines : List Placing → List ReportLine
job_lines places = map (λ e. Job e.job e.mode e.start) (entries places)

abbrev pub best_part : Option (List Placing) → List ReportLine
best_part None = []
best_part (Some places) = job_lines places

-- none where there is a 0
abbrev pub from_one : ℕ → Option ℕ
from_one n = if n == 0 then None else Some n

abbrev pub log_words : LogLine → LogWords
log_words line = record { job = from_one line.job; mode = from_one line.mode; start = line.start; letter = letter_of line.fate; number = fate_number line.fate }

-- a line for each line of the log
abbrev pub log_lines : List LogLine → List ReportLine
log_lines log = map (λ line. Log (log_words line)) log

abbrev pub log_part : Option (List LogLine) → List ReportLine
log_part None = LogNo ∷ []
log_part (Some log) = LogYes ∷ log_lines log

-- the lines of a report
abbrev pub lines_of : Report → List ReportLine
lines_of report = verdict_lines report.verdict ++ (best_part report.best ++ (log_part report.log ++ End ∷ []))

-- lines as a text: each ends with LF
unfoldable pub text_of_lines : List ReportLine → List ℕ
text_of_lines lines = flat_map (λ line. line_text line ++ 0x0A ∷ []) lines

-- the text of a report
abbrev pub text : Report → List ℕ
text report = text_of_lines (lines_of report)
