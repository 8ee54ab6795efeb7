-- What the definitions of a report's text imply.
use Rattle.std.specs.Prelude.{◌≡◌, ◌<◌, IfSome, All}
use Rattle.proof_log.specs.declared.report.Report.{Report}
use Rattle.proof_log.specs.Report.{IsReport}
use Rattle.proof_log.specs.Text.{text}

-- jobs and modes are bytes
pub record HasBytes (report : Report) : Type 0 where
  pub modes : IfSome report.best (All (λ place. place.mode < 256))
  pub log : IfSome report.log (All (λ line. (line.job < 256) × (line.mode < 256)))

-- no two reports have the same text
abbrev pub OneReportLaw : Type 0
OneReportLaw = (first second : Report) → IsReport first → HasBytes first → IsReport second → HasBytes second → text first ≡ text second → first ≡ second
