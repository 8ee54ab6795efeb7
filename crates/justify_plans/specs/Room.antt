-- What is looked at when a job is moved: single periods, and spans of periods in which nothing changes.
use Rattle.std.specs.Prelude.{◌≡◌, ℕ, ◌+◌, ◌<◌, ◌≤◌, ◌⊎◌, List}
use Rattle.rcpsp_model.specs.declared.parts.Entry.{Entry}
use Rattle.rcpsp_model.specs.declared.parts.Placing.{Placing}
use Rattle.rcpsp_model.specs.Project.{Project, request, duration, IsRenewable}
use Rattle.rcpsp_model.specs.Schedule.{usage, cap}
use Rattle.rcpsp_model.specs.Tree.{Fits}
use Rattle.justify_plans.specs.Placings.{start_in, finish_in}

-- in the period each renewable resource has room for the job in the mode beside the entries
abbrev pub HasRoomAt : Project → List Entry → ℕ → ℕ → ℕ → Type 0
HasRoomAt P es j m t = (k : ℕ) → IsRenewable P k → usage P es k t + request P j m k ≤ cap P k t

-- the time isn't strictly between the periods
abbrev pub IsOutside : ℕ → ℕ → ℕ → Type 0
IsOutside from until time = (time ≤ from) ⊎ (until ≤ time)

-- strictly between the periods no job starts or is done
pub record IsQuiet (P : Project) (s : List Placing) (from until j : ℕ) : Type 0 where
  pub start : IsOutside from until (start_in s j)
  pub finish : IsOutside from until (finish_in P s j)

-- from the one period up to the other there is the same of the resource
abbrev pub IsSteady : Project → ℕ → ℕ → ℕ → Type 0
IsSteady P from until k = (t : ℕ) → from ≤ t → t < until → cap P k t ≡ cap P k from

-- a start at which the job in the mode is done by a time, and fits beside the entries
pub record FitsBy (P : Project) (es : List Entry) (until j m t : ℕ) : Type 0 where
  pub by : t + duration P j m ≤ until
  pub fits : Fits P es j m t

-- a start from a time on at which the job in the mode fits beside the entries
pub record FitsFrom (P : Project) (es : List Entry) (from j m t : ℕ) : Type 0 where
  pub after : from ≤ t
  pub fits : Fits P es j m t
