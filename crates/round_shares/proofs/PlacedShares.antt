-- The shares of all workers, put into the whole.
use Rattle.std.proofs.Common.{◌≡◌, ℕ, ◌+◌, ◌-◌, ◌<◌, ◌≤◌, List, [], ◌∷◌, ◌++◌, length, map, Some}
use Rattle.std.specs.Prelude.{nat_lt, if◌then◌else◌}
use Rattle.rcpsp_model.specs.Project.{Project}
use Rattle.search_log.specs.Stands.{TreeNode, node_at, place_front, Waiting}
use Rattle.round_shares.specs.Part.{Beginning, Event}
use Rattle.round_shares.specs.Share.{room, first_place, visited, born}
use Rattle.round_shares.specs.Crew.{Worked, HasShare, HaveShares, real_place}
use Rattle.round_shares.proofs.RealEvents.{real_event}

-- What the shares of workers have together.

abbrev pub all_more : (P : Project) (b : Beginning) (worker : ℕ) (ws : List Worked) → HaveShares P b worker ws → List TreeNode
all_more P b worker [] s = []
all_more P b worker (w ∷ ws) s = s.0.share.more ++ all_more P b (worker + 1) ws s.1

abbrev pub all_visited : (P : Project) (b : Beginning) (worker : ℕ) (ws : List Worked) → HaveShares P b worker ws → List Waiting
all_visited P b worker [] s = []
all_visited P b worker (w ∷ ws) s = map visited s.0.share.events ++ all_visited P b (worker + 1) ws s.1

abbrev pub all_born : (P : Project) (b : Beginning) (worker : ℕ) (ws : List Worked) → HaveShares P b worker ws → List Waiting
all_born P b worker [] s = []
all_born P b worker (w ∷ ws) s = born (first_place worker) s.0.share.more ++ all_born P b (worker + 1) ws s.1

-- the events, with their places in the table
abbrev pub all_events : (P : Project) (b : Beginning) (starts : List ℕ) (worker : ℕ) (ws : List Worked) → HaveShares P b worker ws → List Event
all_events P b starts worker [] s = []
all_events P b starts worker (w ∷ ws) s = map (real_event starts) s.0.share.events ++ all_events P b starts (worker + 1) ws s.1

-- The whole.

-- the place in the table of the first new row of each worker, the place by which shares name the row at a place of the table, the
-- nodes, and the least best seen by all
pub record Whole : Type 0 where
  pub starts : List ℕ
  pub names : ℕ → ℕ
  pub nodes : List TreeNode
  pub best : ℕ

-- what waits, or waited, has its row in the table, which shares name by its place
pub record IsFound (t : Whole) (x : Waiting) : Type 0 where
  pub at : place_front t.nodes (real_place t.starts x.place) ≡ Some x.front
  pub named : t.names (real_place t.starts x.place) ≡ x.place

-- the new rows of the worker have the places of the table from `start` on
pub record IsPlaced (P : Project) (b : Beginning) (t : Whole) (worker start : ℕ) (w : Worked) (has : HasShare P b worker w) : Type 0 where
  pub from : b.first_worker ≤ worker
  pub to : worker ≤ b.last_worker
  pub falls : t.best ≤ w.at.pass.least_seen
  pub moves : (i : ℕ) → i < room → real_place t.starts (first_place worker + i) ≡ start + i
  pub named : (i : ℕ) → i < length w.part.grown → t.names (start + i) ≡ first_place worker + i
  pub nodes : (i : ℕ) → i < length has.share.more → node_at t.nodes (start + i) ≡ node_at has.share.more i
  pub within : start + length has.share.more ≤ length t.nodes

abbrev pub ArePlaced : (P : Project) (b : Beginning) (t : Whole) (worker start : ℕ) (ws : List Worked) → HaveShares P b worker ws → Type 0
ArePlaced P b t worker start [] s = Unit {0}
ArePlaced P b t worker start (w ∷ ws) s = IsPlaced P b t worker start w s.0 × ArePlaced P b t (worker + 1) (start + length w.part.grown) ws s.1

-- Names.

-- the place by which shares name the row at a place of the table, where the first of these workers has its rows from `start` on
abbrev pub named_from : ℕ → ℕ → List Worked → ℕ → ℕ
named_from worker start [] q = q
named_from worker start (w ∷ ws) q = if nat_lt q (start + length w.part.grown) then first_place worker + (q - start) else named_from (worker + 1) (start + length w.part.grown) ws q

abbrev pub named_place : ℕ → List Worked → ℕ → ℕ
named_place rows ws q = if nat_lt q rows then q else named_from 1 rows ws q
