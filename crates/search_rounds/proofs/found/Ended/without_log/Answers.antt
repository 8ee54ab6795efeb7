use Rattle.std.proofs.Common.{ap, List, Option, None}
use Rattle.rcpsp_model.specs.declared.parts.Verdict.{Verdict}
use Rattle.rcpsp_model.specs.declared.parts.Placing.{Placing}
use Rattle.proof_log.specs.declared.report.Report.{Report}
use Rattle.search_rounds.proofs.FoundReports.{tells_none}
use Rattle.search_rounds.proofs.found.Ended.without_log.Goals as goal

abbrev untold : Option (List Placing) → Verdict → Report
untold best verdict = record { verdict = verdict; best = best; log = None }

pub returns : goal.returns
returns c P w nodes first small is =
    tells_none P w nodes first c.least_left-lower.result c.args.self _ small is c.least_left-lower.ensures (ap (untold c.args.self.best.plan) c.verdict.ensures)
