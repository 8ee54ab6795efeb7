use Rattle.std.proofs.Common.{arith, subst}
use Rattle.scheduler.specs.declared.reading.TheConstants.{MOST_READ}
use Rattle.scheduler.specs.Answer.{IsOutcomeOf}
use Rattle.scheduler.proofs.TextFronts.{told_outcome}
use Rattle.scheduler.proofs.answering.answer_on.Goals as goal

pub returns-clause-answer : goal.returns-clause-answer
returns-clause-answer g c words task project =
    told_outcome words _ _ _ _ MOST_READ _ (omega arith) project c.in_ok-text.ensures.text
    (subst (λ bytes. IsOutcomeOf words bytes c.in_ok-outcome_of.field-0) c.deref.ensures.value (c.in_ok-outcome_of.ensures.outcome words task))
