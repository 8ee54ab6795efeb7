use Rattle.std.proofs.Common.{ℕ, List}
use Rattle.std.proofs.lemmas.Result.{IfOk-weaker}
use Rattle.psplib_layout.specs.Text.{Reads}
use Rattle.scheduler.specs.declared.answer.Outcome.{Outcome}
use Rattle.scheduler.specs.Task.{IsTaskOf}
use Rattle.scheduler.specs.Answer.{IsOutcomeOf}
use Rattle.scheduler.proofs.answering.outcome_of.Goals as goal

pub returns-in-Ok-clause-outcome : goal.returns-in-Ok-clause-outcome
returns-in-Ok-clause-outcome g c =
    IfOk-weaker c.outcome_on.result
    (λ (outcome : Outcome). (words : List (List ℕ)) (bytes : List ℕ) → IsTaskOf words c.args.task → Reads bytes c.in-Ok.project → IsOutcomeOf words bytes outcome)
    (λ (outcome : Outcome). (words : List (List ℕ)) → IsTaskOf words c.args.task → IsOutcomeOf words c.args.text.now outcome)
    (λ outcome is words task. is words c.args.text.now task c.in-Ok.ensures.ok)
    c.outcome_on.ensures.outcome
