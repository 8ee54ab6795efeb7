use Rattle.std.proofs.Common.{true, false}
use Rattle.search_rounds.specs.Found.{report_of}
use Rattle.scheduler.proofs.SearchedReports.{has_ended, found_by, untold_by, as_asked, searched, told_text}
use Rattle.scheduler.proofs.solving.report_on.Goals as goal

pub tell-requires : goal.tell-requires
tell-requires g c =
    let r = c.args.request in
    has_ended c.args.project.now r.workers r.nodes r.tries c.in_ok-ended.ended c.in_ok-ended.ensures

-- with its log

pub returns-then-request-clause-report : goal.returns-then-request-clause-report
returns-then-request-clause-report g c =
    let P = c.args.project.now in
    let r = c.args.request in
    let f = c.in_ok-found.found in
    let is = found_by P r.workers r.nodes r.tries c.in_ok-ended.ended f c.requires.nodes c.in_ok-ended.ensures c.in_ok-found.ensures in
    searched c.told_report.ensures.report c.true_claim.ensures.holds P r.workers r.nodes r.tries r.log f c.told.result c.known.ensures is
    (as_asked r.log true c.told.result (report_of f) c.if-request.true c.told.ensures)

pub returns-then-request-clause-text : goal.returns-then-request-clause-text
returns-then-request-clause-text g c =
    let P = c.args.project.now in
    let r = c.args.request in
    let f = c.in_ok-found.found in
    let is = found_by P r.workers r.nodes r.tries c.in_ok-ended.ended f c.requires.nodes c.in_ok-ended.ensures c.in_ok-found.ensures in
    told_text c.told_report.ensures.report P r.workers r.nodes r.tries r.log f c.told.result c.known.ensures is
    (as_asked r.log true c.told.result (report_of f) c.if-request.true c.told.ensures)

-- without

pub returns-clause-report : goal.returns-clause-report
returns-clause-report g c =
    let P = c.args.project.now in
    let r = c.args.request in
    let told = c.without_log.result in
    let x = untold_by P r.workers r.nodes r.tries c.in_ok-ended.ended told c.in_ok-ended.ensures (λ first is. c.without_log.ensures P r.workers r.nodes first c.requires.nodes is) in
    searched c.told_report.ensures.report c.true_claim.ensures.holds P r.workers r.nodes r.tries r.log x.found told c.known.ensures x.is_found
    (as_asked r.log false told (report_of x.found) c.if-request.false x.same)

pub returns-clause-text : goal.returns-clause-text
returns-clause-text g c =
    let P = c.args.project.now in
    let r = c.args.request in
    let told = c.without_log.result in
    let x = untold_by P r.workers r.nodes r.tries c.in_ok-ended.ended told c.in_ok-ended.ensures (λ first is. c.without_log.ensures P r.workers r.nodes first c.requires.nodes is) in
    told_text c.told_report.ensures.report P r.workers r.nodes r.tries r.log x.found told c.known.ensures x.is_found
    (as_asked r.log false told (report_of x.found) c.if-request.false x.same)
