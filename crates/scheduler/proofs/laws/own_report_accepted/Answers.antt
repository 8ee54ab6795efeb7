use Rattle.scheduler.proofs.ReportsJudged.{own_report_law}
use Rattle.scheduler.proofs.laws.own_report_accepted.Goals as goal

pub returns : goal.returns
returns c = own_report_law
