-- When a job in a mode fits beside the active jobs of a front.
use Rattle.std.specs.Prelude.{ℕ, ◌+◌, ◌<◌, ◌≤◌, List}
use Rattle.rcpsp_model.specs.Project.{Project, duration, request, capacity, IsRenewable}
use Rattle.rcpsp_model.specs.Schedule.{cap}
use Rattle.precedence_tree.specs.declared.active.Active.{Active}
use Rattle.precedence_tree.specs.Active.{load_at}

-- at the period the active jobs leave what the mode asks, of each renewable resource, where its capacity is whole
abbrev pub HasRoomAt : Project → List Active → ℕ → ℕ → ℕ → Type 0
HasRoomAt P xs j m t = (k : ℕ) → IsRenewable P k → load_at P xs k t + request P j m k ≤ capacity P k

-- in each period of the mode from the start on, the active jobs leave what it asks of the renewable resource
abbrev pub FitsOn : Project → List Active → ℕ → ℕ → ℕ → ℕ → Type 0
FitsOn P xs j m k t = (u : ℕ) → t ≤ u → u < t + duration P j m → load_at P xs k u + request P j m k ≤ cap P k u

-- the same of all renewable resources
abbrev pub FitsBeside : Project → List Active → ℕ → ℕ → ℕ → Type 0
FitsBeside P xs j m t = (k : ℕ) → IsRenewable P k → FitsOn P xs j m k t

-- from the start on, nothing fits before the next
pub record IsNextTry (Fits : ℕ → Type 0) (start next : ℕ) : Type 0 where
  pub later : start < next
  pub least : (t : ℕ) → start ≤ t → Fits t → next ≤ t
