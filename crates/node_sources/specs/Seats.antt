-- What of the sources of a round stays, whatever nodes they take and give.
use Rattle.std.specs.Prelude.{◌≡◌, ℕ, ◌+◌, ◌≤◌, ◌==◌, if◌then◌else◌, List, [], ◌∷◌, ◌++◌, length, map}
use Rattle.std.specs.declared.alloc.Global.{Global}
use Rattle.atomic_blocks.specs.Lent.{RowsId}
use Rattle.rcpsp_model.specs.Project.{Project}
use Rattle.search_log.specs.Weights.{Each}
use Rattle.node_deques.specs.Handles.{HandleState}
use Rattle.node_sources.specs.declared.reach.Reach.{Reach}
use Rattle.node_sources.specs.Source.{SourceState, IsSourceOf}

-- of a handle: its deque, how many passes it stands for, and how many were split off it
pub record Handle : Type 0 where
  pub deque : RowsId × Global
  pub passes : ℕ
  pub split_off : ℕ

-- a handle on the deque of this worker
pub record Right : Type 0 where
  pub owner : ℕ
  pub handle : Handle

-- a worker's number, the handle of its own deque, and its rights on others'
pub record Seat : Type 0 where
  pub number : ℕ
  pub own : Handle
  pub rights : List Right

abbrev pub handle_of : HandleState → Handle
handle_of h = record { deque = h.deque; passes = h.view.passes; split_off = h.view.split_off }

abbrev pub right_of : Reach → Right
right_of r = record { owner = r.owner; handle = handle_of r.thief }

abbrev pub seat_of : SourceState → Seat
seat_of s = record { number = s.number; own = handle_of s.deque; rights = map right_of s.reaches }

-- the seat stays, and so does each project of whose fronts the nodes are
pub record Stays (before after : SourceState) : Type 0 where
  pub seat : seat_of after ≡ seat_of before
  pub nodes : (P : Project) → IsSourceOf P before → IsSourceOf P after

-- The seats of a round.

abbrev pub all_rights : List Seat → List Right
all_rights [] = []
all_rights (s ∷ ss) = s.rights ++ all_rights ss

-- for how many passes the rights on the deque of this worker stand
abbrev pub passes_on : ℕ → List Right → ℕ
passes_on worker [] = 0
passes_on worker (r ∷ rs) = (if r.owner == worker then r.handle.passes else 0) + passes_on worker rs

-- the rights on the deque of this worker are on this one; all of its passes are the owner's and theirs
pub record IsReached (rights : List Right) (worker : ℕ) (own : Handle) : Type 0 where
  pub deque : Each (λ r. r.owner ≡ worker → r.handle.deque ≡ own.deque) rights
  pub passes : own.passes + passes_on worker rights ≡ 1 + own.split_off

-- those of the workers from this number on
abbrev pub AreReached : List Right → ℕ → List Handle → Type 0
AreReached rights worker [] = Unit {0}
AreReached rights worker (own ∷ more) = IsReached rights worker own × AreReached rights (worker + 1) more

abbrev pub AreNumberedFrom : ℕ → List Seat → Type 0
AreNumberedFrom n [] = Unit {0}
AreNumberedFrom n (s ∷ ss) = (s.number ≡ n) × AreNumberedFrom (n + 1) ss

-- it is on the deque of one of so many workers
pub record IsWithin (workers : ℕ) (r : Right) : Type 0 where
  pub low : 1 ≤ r.owner
  pub high : r.owner ≤ workers

-- the seats are those of the workers from 1 on, who have all rights on each other's deques
pub record AreSeats (ss : List Seat) : Type 0 where
  pub numbers : AreNumberedFrom 1 ss
  pub within : Each (IsWithin (length ss)) (all_rights ss)
  pub reached : AreReached (all_rights ss) 1 (map (λ s. s.own) ss)

abbrev pub AreSeated : List SourceState → Type 0
AreSeated ss = AreSeats (map seat_of ss)
