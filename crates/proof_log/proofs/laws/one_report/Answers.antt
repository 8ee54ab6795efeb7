use Rattle.proof_log.proofs.OneReport.{one_report_law}
use Rattle.proof_log.proofs.laws.one_report.Goals as goal

pub returns : goal.returns
returns c = one_report_law
