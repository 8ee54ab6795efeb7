-- The choices of a front that are left from one of them on.
use Rattle.std.specs.Prelude.{◌≡◌, ℕ, ◌+◌, ◌-◌, Option, Some, None, List, [], ◌++◌, length, map, filter}
use Rattle.std.specs.List.{flat_map}
use Rattle.rcpsp_model.specs.declared.parts.Entry.{Entry}
use Rattle.rcpsp_model.specs.Project.{Project, job_count, modes_of, numbers_from, IsMode}
use Rattle.rcpsp_model.specs.Tree.{Choice, choices_of, is_eligible, IsEligible}
use Rattle.log_checker.specs.declared.choices.Turn.{Turn}
use Rattle.log_checker.specs.Judged.{choice_at}

-- by the jobs above a number
abbrev pub choices_above : Project → List Entry → ℕ → List Choice
choices_above P F j = flat_map (choices_of P) (filter (is_eligible P F) (numbers_from (j + 1) (job_count P - j)))

-- by the job in its modes from one on, and by the jobs above it
abbrev pub choices_from : Project → List Entry → ℕ → ℕ → List Choice
choices_from P F j m = map (λ n. choice_at j n) (numbers_from m (length (modes_of P j) + 1 - m)) ++ choices_above P F j

abbrev pub turns_from : Project → List Entry → Turn → List Choice
turns_from P F turn = choices_from P F turn.job turn.mode

-- the choice is one of the front
pub record IsTurnOf (P : Project) (F : List Entry) (turn : Turn) : Type 0 where
  pub eligible : IsEligible P F turn.job
  pub mode : IsMode P turn.job turn.mode

-- of what is left of the choices of the front, this is the first; none where nothing is left
abbrev pub IsNextChoice : Project → List Entry → List Choice → Option Turn → Type 0
IsNextChoice P F left None = left ≡ []
IsNextChoice P F left (Some turn) = (left ≡ turns_from P F turn) × IsTurnOf P F turn
