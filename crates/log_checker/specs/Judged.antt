-- What a line of the log turns out to be on its branch.
use Rattle.std.specs.Prelude.{◌≡◌, ℕ, Some, None, List, [], ◌∷◌, ◌++◌}
use Rattle.rcpsp_model.specs.declared.parts.Entry.{Entry}
use Rattle.rcpsp_model.specs.declared.parts.Verdict.{Verdict}
use Rattle.rcpsp_model.specs.Project.{Project}
use Rattle.rcpsp_model.specs.Tree.{Choice, entry_at, IsPlacedChild}
use Rattle.precedence_tree.specs.Node.{NodeState, StandsFor}
use Rattle.proof_log.specs.declared.report.LogLine.{LogLine}
use Rattle.log_truth.specs.Log.{Branch, front_at}
use Rattle.log_truth.specs.Refusal.{Fault, IsGood, HasFault}
use Rattle.log_checker.specs.declared.judging.Judged.{Judged}
use Rattle.log_checker.specs.declared.judging.Judged.TheVariants.{Broken, Shut, Open}
use Rattle.log_checker.specs.Reasons.{reason_of}

abbrev pub choice_at : ℕ → ℕ → Choice
choice_at j m = record { job = j; mode = m }

-- the node is that of the child of F by the choice, which is placed
pub record IsPlacedNode (P : Project) (F : List Entry) (c : Choice) (node : NodeState) : Type 0 where
  pub start : ℕ
  pub front : node.front ≡ F ++ entry_at c.job c.mode start ∷ []
  pub placed : IsPlacedChild P F (entry_at c.job c.mode start)

-- after k expanded lines the line breaks a rule, which is the reason; or it is right, and has this front or none
abbrev pub IsJudged : Project → Verdict → ℕ → Branch → LogLine → Judged → Type 0
IsJudged P verdict k branch line (Broken reason) = (fault : Fault) × HasFault P verdict k branch line fault × (reason ≡ reason_of fault)
IsJudged P verdict k branch line Shut = IsGood P verdict k branch line × (front_at branch line ≡ None)
IsJudged P verdict k branch line (Open node) = IsGood P verdict k branch line × (front_at branch line ≡ Some node.front) × StandsFor P node
