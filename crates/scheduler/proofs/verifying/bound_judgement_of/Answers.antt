use Rattle.std.proofs.Common.{subst, ◌∙◌}
use Rattle.rcpsp_model.specs.Project.{Project}
use Rattle.bound_checker.specs.Checker.{IsJudgement}
use Rattle.scheduler.proofs.verifying.bound_judgement_of.Goals as goal

pub returns-clause-judged : goal.returns-clause-judged
returns-clause-judged g c =
    let has = c.in_ok-feed_text.ensures.text in
    record {
      text = has.bytes;
      is_text = has.is_text;
      judged = subst (λ (P : Project). IsJudgement P has.bytes c.finish.result) (c.feed_text.ensures.about ∙ c.new-checker.ensures.project) (c.finish.ensures.judged has.bytes has.stands);
    }
