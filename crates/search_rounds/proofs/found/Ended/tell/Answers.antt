use Rattle.std.proofs.Common.{refl}
use Rattle.search_log.specs.Stands.{closing}
use Rattle.search_log.proofs.ToldLogs.{whole_law}
use Rattle.search_rounds.proofs.FoundReports.{tells}
use Rattle.search_rounds.proofs.found.Ended.tell.Goals as goal

pub log_of-requires-clause-whole : goal.log_of-requires-clause-whole
log_of-requires-clause-whole c =
    let e = c.requires.4 in
    whole_law c.requires.0 (closing c.args.self.best.end) c.args.self.table.rows e.tree e.stands

pub log_of-requires-clause-origins : goal.log_of-requires-clause-origins
log_of-requires-clause-origins c = c.requires.4.origins

pub returns : goal.returns
returns c P w nodes first small is =
    tells P w nodes first c.least_left-lower.result c.args.self _ small is c.least_left-lower.ensures c.in_ok-told.ensures c.verdict.ensures refl refl
