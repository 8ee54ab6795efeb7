-- The text of a bound that is judged as it is read.
use Rattle.std.specs.Prelude.{ℕ, Option, Result, List}
use Rattle.rcpsp_model.specs.Project.{Project}
use Rattle.bound_checker.specs.declared.checker.BoundRefusal.{BoundRefusal}
use Rattle.bound_checker.specs.Checker.{IsJudgement}
use Rattle.scheduler.specs.Feeding.{IsTextUnder}

-- what the text under the name comes to, as that of a bound of the project
pub record IsBoundJudgementOf (P : Project) (texts : Option (List (List ℕ × List ℕ))) (name : List ℕ) (out : Result ℕ BoundRefusal) : Type 0 where
  pub text : List ℕ
  pub is_text : IsTextUnder texts name text
  pub judged : IsJudgement P text out
