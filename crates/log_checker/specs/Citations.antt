-- Citations, by the expanded lines that are kept.
use Rattle.std.specs.Prelude.{◌≡◌, ℕ, ◌<◌, ◌≤◌, ◌⊎◌, Option, Some, None, List, [], ◌∷◌, ◌++◌, length, map, slice_get, slice_index}
use Rattle.rcpsp_model.specs.declared.parts.Entry.{Entry}
use Rattle.rcpsp_model.specs.Project.{Project}
use Rattle.rcpsp_model.specs.Tree.{entry_at, IsPlacedChild}
use Rattle.rcpsp_model.specs.Dominance.{Dominates}
use Rattle.proof_log.specs.declared.report.LogLine.{LogLine}
use Rattle.log_truth.specs.Log.{nodes}
use Rattle.log_truth.specs.Holds.{AreServed}
use Rattle.log_truth.specs.Refusal.{IsFirstUnserved}
use Rattle.log_checker.specs.declared.choices.Turn.{Turn}
use Rattle.log_checker.specs.declared.walk.Grown.{Grown}
use Rattle.log_checker.specs.Walk.{Citation}

-- the expanded line in some place has the number that is cited, and its front dominates
pub record IsServedBy (P : Project) (grown : List Grown) (c : Citation) : Type 0 where
  pub place : ℕ
  pub own : Grown
  pub at : slice_get grown place ≡ Some own
  pub line : own.line ≡ c.cited
  pub dominates : Dominates P own.front.front c.front

-- of these citations, the number of the first line that none serves
abbrev pub IsFirstBad : Project → List Grown → List Citation → Option ℕ → Type 0
IsFirstBad P grown [] n = n ≡ None
IsFirstBad P grown (c ∷ cs) n = ((IsServedBy P grown c → ⊥) × (n ≡ Some c.line)) ⊎ (IsServedBy P grown c × IsFirstBad P grown cs n)

abbrev pub numbers_of : List Grown → List ℕ
numbers_of grown = map (λ g. g.line) grown

-- each number is greater than those before it
abbrev pub Ascends : List ℕ → Type 0
Ascends xs = (i k : ℕ) → i < k → k < length xs → slice_index xs i < slice_index xs k

-- the front of the placed child of F by a choice
pub record IsChildOf (P : Project) (F : List Entry) (turn : Turn) (G : List Entry) : Type 0 where
  pub start : ℕ
  pub front : G ≡ F ++ entry_at turn.job turn.mode start ∷ []
  pub placed : IsPlacedChild P F (entry_at turn.job turn.mode start)

-- of a log's lines, the number of the first whose citation doesn't serve it, which is the number of a line; or all are served
abbrev pub IsFirstOf : Project → List LogLine → Option ℕ → Type 0
IsFirstOf P lines None = AreServed P lines
IsFirstOf P lines (Some n) = IsFirstUnserved P (nodes P lines) 1 (nodes P lines) n × (n ≤ length lines)
