-- A report that is judged as it is read.
use Rattle.std.specs.Prelude.{ℕ, Option, Result, Ok, Err, List}
use Rattle.rcpsp_model.specs.declared.parts.Verdict.{Verdict}
use Rattle.rcpsp_model.specs.Project.{Project}
use Rattle.log_checker.specs.declared.refused.Refused.{Refused}
use Rattle.log_checker.specs.declared.refused.Refused.TheVariants.{Report}
use Rattle.log_checker.specs.Checker.{IsJudgement}
use Rattle.scheduler.specs.declared.answer.Judgement.{Judgement}
use Rattle.scheduler.specs.declared.answer.Judgement.TheVariants.{Accepted, Refused as refused}
use Rattle.scheduler.specs.Feeding.{IsTextUnder}

-- the judge's result
abbrev pub result_of : Judgement → Result Verdict Refused
result_of (Accepted verdict) = Ok verdict
result_of (refused line reason) = Err (Report line reason)

-- the judgement of the text under the name, as a report on the project
pub record IsJudgementOf (P : Project) (texts : Option (List (List ℕ × List ℕ))) (name : List ℕ) (judgement : Judgement) : Type 0 where
  pub report : List ℕ
  pub is_report : IsTextUnder texts name report
  pub judged : IsJudgement P report (result_of judgement)
