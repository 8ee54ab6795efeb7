-- Where a job fits beside entries.
use Rattle.std.specs.Prelude.{ℕ, ◌+◌, ◌<◌, ◌≤◌, List}
use Rattle.rcpsp_model.specs.declared.parts.Entry.{Entry}
use Rattle.rcpsp_model.specs.Project.{Project}
use Rattle.rcpsp_model.specs.Schedule.{usage, cap}
use Rattle.rcpsp_model.specs.Tree.{Fits}

-- in each of the periods from the one up to the other, the resource has room for the request beside the entries
abbrev pub HasRoom : Project → List Entry → ℕ → ℕ → ℕ → ℕ → Type 0
HasRoom P es k request from until = (u : ℕ) → from ≤ u → u < until → usage P es k u + request ≤ cap P k u

-- the resource lacks room for the request in the period
abbrev pub Lacks : Project → List Entry → ℕ → ℕ → ℕ → Type 0
Lacks P es k request t = cap P k t < usage P es k t + request

-- a start from the floor on at which the job in the mode fits
abbrev pub FitsFrom : Project → List Entry → ℕ → ℕ → ℕ → ℕ → Type 0
FitsFrom P es j m floor t = (floor ≤ t) × Fits P es j m t

-- the job in the mode fits at none of the starts from the one up to the later other
pub record IsGap (P : Project) (es : List Entry) (j m at end : ℕ) : Type 0 where
  pub some : at < end
  pub none : (t : ℕ) → at ≤ t → t < end → Fits P es j m t → ⊥
