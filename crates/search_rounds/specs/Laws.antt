-- What holds of all that a search finds. Each is the contract of a function, and so is proved.
use Rattle.std.specs.Prelude.{ℕ, ◌<◌, ◌≤◌, Option, List, All}
use Rattle.rcpsp_model.specs.declared.parts.Verdict.{Verdict}
use Rattle.rcpsp_model.specs.Project.{Project, IsProject}
use Rattle.proof_log.specs.declared.report.LogLine.{LogLine}
use Rattle.proof_log.specs.Report.{IsLog, IsReport}
use Rattle.proof_log.specs.Laws.{HasBytes}
use Rattle.log_truth.specs.Holds.{IsLeftNumber, LogHolds}
use Rattle.search_rounds.specs.declared.found.Found.{Found}
use Rattle.search_rounds.specs.Found.{report_of, IsFound}

-- jobs and modes are bytes
abbrev pub HasLineBytes : List LogLine → Type 0
HasLineBytes lines = All (λ line. (line.job < 256) × (line.mode < 256)) lines

-- a log that holds has the form of one, where the numbers of what was left have at most nine digits
abbrev pub FormLaw : Type 0
FormLaw =
    (P : Project) (verdict : Verdict) (lines : List LogLine) → IsProject P → LogHolds P verdict lines → ((b : ℕ) → IsLeftNumber lines b → b ≤ 999999999) → IsLog lines × HasLineBytes lines

-- what was found is a report that has a text
abbrev pub ReportLaw : Type 0
ReportLaw = (P : Project) (workers nodes : ℕ) (first : Option ℕ) (f : Found) → IsProject P → IsFound P workers first nodes f → IsReport (report_of f) × HasBytes (report_of f)
