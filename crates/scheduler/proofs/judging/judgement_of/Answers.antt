use Rattle.std.proofs.Common.{ap, ◌∙◌, Err}
use Rattle.scheduler.specs.declared.answer.Judgement.TheVariants as judgements
use Rattle.scheduler.proofs.FedReports.{judged_all}
use Rattle.scheduler.proofs.judging.judgement_of.Goals as goal

pub returns-in-Err-Report-clause-judged : goal.returns-in-Err-Report-clause-judged
returns-in-Err-Report-clause-judged g c =
    judged_all c.args.project.now (g.S.Shelf.texts c.args.shelf.now) c.args.name.now c.feed_text.new.judge c.finish.result (judgements.Refused c.in-Err-Report.line c.in-Err-Report.reason)
    (c.feed_text.ensures.about ∙ c.new-checker.ensures.project) c.in_ok-feed_text.ensures.text c.finish.ensures.judged (c.in-Err-Report.is ∙ ap Err c.in-Err-Report.field-0-is)
