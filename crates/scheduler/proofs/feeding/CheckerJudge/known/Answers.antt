use Rattle.scheduler.proofs.FedReports.{report_stays}
use Rattle.scheduler.proofs.feeding.CheckerJudge.known.Goals as goal

pub returns : goal.returns
returns c bytes more = report_stays c.args.self.now bytes more c.requires
