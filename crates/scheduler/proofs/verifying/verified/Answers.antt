use Rattle.std.proofs.Common.{arith, inr, sym, ap, subst, ◌∙◌, Err}
use Rattle.psplib_layout.specs.Text.{Reads, IsFirstRefusal}
use Rattle.scheduler.specs.declared.reading.TheConstants.{MOST_READ}
use Rattle.scheduler.specs.Verifying.{IsBoundJudgementOf}
use Rattle.scheduler.proofs.TextFronts.{front_named, told_outcome}
use Rattle.scheduler.proofs.verifying.verified.Goals as goal

pub returns-in-Ok-clause-answer : goal.returns-in-Ok-clause-answer
returns-in-Ok-clause-answer g c words verify project bound = record {
  verify = verify;
  project = c.in-Ok.project;
  named = front_named words _ _ _ MOST_READ c.in-Ok.project (omega arith) project c.in_ok-text.ensures.text (subst (λ bytes. Reads bytes c.in-Ok.project) c.deref.ensures.value c.in-Ok.ensures.ok);
  judged = subst (λ name. IsBoundJudgementOf c.in-Ok.project (g.S.Shelf.texts c.args.shelf.now) name c.in_ok-bound_judgement_of-in-Ok.field-0) bound
      (subst (λ texts. IsBoundJudgementOf c.in-Ok.project texts c.args.bound.now c.in_ok-bound_judgement_of-in-Ok.field-0) c.read_text.ensures.texts c.in_ok-bound_judgement_of-in-Ok.ensures.judged);
}

pub returns-in-Err-Refused-clause-answer : goal.returns-in-Err-Refused-clause-answer
returns-in-Err-Refused-clause-answer g c words verify project bound =
    told_outcome words _ _ _ _ MOST_READ _ (omega arith) project c.in_ok-text.ensures.text
    (inr (inr (inr (inr (inr verify)))), subst (IsFirstRefusal c.in_ok-text.text.items) (sym c.in-Err-Refused.refusal-is) (subst (λ bytes. IsFirstRefusal bytes c.in-Err-Refused.refusal) c.deref.ensures.value (c.read_project.ensures.refused c.in-Err-Refused.refusal (c.in-Err-Refused.is ∙ ap Err c.in-Err-Refused.field-0-is))))
