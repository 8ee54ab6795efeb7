use Rattle.log_checker.proofs.AcceptedReports.{text_law}
use Rattle.log_checker.proofs.ExactVerdicts.{accepts_law}
use Rattle.log_checker.proofs.laws.accepted_text.Goals as goal

pub returns-clause-text : goal.returns-clause-text
returns-clause-text c P bytes verdict = text_law P bytes verdict

pub returns-clause-accepts : goal.returns-clause-accepts
returns-clause-accepts c P bytes verdict limits = accepts_law P bytes verdict limits
