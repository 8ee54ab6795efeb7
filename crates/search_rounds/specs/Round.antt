-- What a round promises of the table on which it began.
use Rattle.std.specs.Prelude.{◌≡◌, ℕ, ◌+◌, ◌<◌, ◌≤◌, true, Option, Some, None, IfSome, List, [], ◌++◌, length, map, All, Contains}
use Rattle.std.specs.List.{AllZip}
use Rattle.rcpsp_model.specs.declared.parts.Entry.{Entry}
use Rattle.rcpsp_model.specs.declared.parts.Placing.{Placing}
use Rattle.rcpsp_model.specs.Project.{Project}
use Rattle.rcpsp_model.specs.Chain.{IsLeast}
use Rattle.rcpsp_model.specs.Tree.{Choice}
use Rattle.rcpsp_model.specs.Bounds.{IsLowerBound}
use Rattle.rcpsp_model.specs.Dominance.{Dominates}
use Rattle.rcpsp_model.specs.Claim.{HasDuration}
use Rattle.log_truth.specs.Log.{by_choice}
use Rattle.precedence_tree.specs.declared.base.Base.{Base}
use Rattle.precedence_tree.specs.Base.{IsBaseOf}
use Rattle.precedence_tree.specs.Node.{StandsFor}
use Rattle.search_log.specs.declared.row.Row.{Row}
use Rattle.search_log.specs.declared.row.Origin.{Origin}
use Rattle.search_log.specs.declared.table.Table.{Table}
use Rattle.search_log.specs.Fates.{row_open, row_cites}
use Rattle.search_log.specs.Table.{says_at}
use Rattle.search_log.specs.Stands.{TreeNode, place_front, searching, IsNoLater, IsClosed, Waiting, Stands, Grows, fill_rows, fill_origins, IsExpandedAt, CitesRow, expanded_rows}
use Rattle.search_log.specs.Lean.{Seen, seen_row, end_number, IsEnd, expands_line, IsAfterParent}
use Rattle.search_rounds.specs.declared.round.WaitingNode.{WaitingNode}
use Rattle.search_rounds.specs.declared.round.Records.{Records}
use Rattle.search_rounds.specs.declared.round.Terms.{Terms}
use Rattle.search_rounds.specs.declared.round.RoundResult.{RoundResult}

-- The nodes that wait, as a table sees them.

abbrev pub waits_at : WaitingNode → Waiting
waits_at w = record { place = w.place; front = w.node.front }

abbrev pub waiting_of : List WaitingNode → List Waiting
waiting_of ws = map waits_at ws

-- Records.

-- this is known of the front at the place, which was expanded
pub record IsRecordOf (P : Project) (T : List Row) (ns : List TreeNode) (place : ℕ) (base : Base) : Type 0 where
  pub expanded : IsExpandedAt T place
  pub front : place_front ns place ≡ Some base.front
  pub known : IsBaseOf P base

-- each record is that of the front at its place, and each front that was expanded has one
pub record AreRecords (P : Project) (T : List Row) (ns : List TreeNode) (records : Records) : Type 0 where
  pub each : AllZip (IsRecordOf P T ns) records.places records.index
  pub all : (q : ℕ) → IsExpandedAt T q → Contains records.places q

-- The table after a round: its new rows come behind the others, and then its fills are made.

abbrev pub rows_after : List Row → RoundResult → List Row
rows_after T r = fill_rows (T ++ map (λ n. n.row) r.grown) r.fills

abbrev pub origins_after : List Origin → RoundResult → List Origin
origins_after O r = fill_origins (O ++ map (λ n. n.origin) r.grown) r.fills

-- of the node at the place something is said after the round, and nothing was before
pub record IsVisited (before after : List Row) (p : ℕ) : Type 0 where
  pub within : p < length after
  pub closed : IsClosed (says_at after p)
  pub was_open : p < length before → says_at before p ≡ row_open

-- What may not be wasted.

-- the worker has a number from 1 to the number of workers
pub record IsByWorker (workers : ℕ) (origin : Origin) : Type 0 where
  pub some : 1 ≤ origin.worker
  pub few : origin.worker ≤ workers

-- the one was visited before the other, by the same worker
pub record IsEarlierTurn (a b : Origin) : Type 0 where
  pub worker : a.worker ≡ b.worker
  pub turn : a.turn < b.turn

-- of the lines at the places that a round visited: each has the round's number and one of the workers. What is expanded has
-- a lower bound below the best at the start, and isn't dominated by what was expanded in earlier rounds or before by the
-- same worker. No visit expands two, and a child isn't visited before its parent
pub record IsLeanRound (P : Project) (workers : ℕ) (terms : Terms) (earlier : List Base) (Visited : ℕ → Type 0) (line : ℕ → Seen) : Type 0 where
  pub round : (p : ℕ) → Visited p → (line p).origin.round ≡ terms.number
  pub worker : (p : ℕ) → Visited p → IsByWorker workers (line p).origin
  pub early : (p : ℕ) (F : List Entry) (b : ℕ) → Visited p → expands_line (line p) ≡ true → (line p).front ≡ Some F → IsLowerBound P F b → b < end_number terms.best
  pub new : (p : ℕ) (F : List Entry) → Visited p → expands_line (line p) ≡ true → (line p).front ≡ Some F → All (λ base. Dominates P base.front F → ⊥) earlier
  pub own :
      (p q : ℕ) (F A : List Entry) → Visited p → Visited q → expands_line (line p) ≡ true → expands_line (line q) ≡ true → IsEarlierTurn (line q).origin (line p).origin →
      (line q).front ≡ Some A → (line p).front ≡ Some F → Dominates P A F → ⊥
  pub one : (p q : ℕ) → Visited p → Visited q → expands_line (line p) ≡ true → expands_line (line q) ≡ true → (line p).origin ≡ (line q).origin → p ≡ q
  pub parents :
      (p q : ℕ) (F : List Entry) (c : Choice) → Visited p → Visited q → expands_line (line q) ≡ true → (line q).front ≡ Some F → (line p).branch ≡ by_choice F c →
      IsAfterParent (line q) (line p)

-- The best.

-- the line is that at one of these places
pub record IsAmong (Visited : ℕ → Type 0) (line : ℕ → Seen) (s : Seen) : Type 0 where
  pub place : ℕ
  pub visited : Visited place
  pub is : s ≡ line place

-- a schedule comes exactly where the best fell, and ends at it
abbrev pub BringsPlan : Project → Option ℕ → Option ℕ → Option (List Placing) → Type 0
BringsPlan P before best None = best ≡ before
BringsPlan P before best (Some s) = (end_number best < end_number before) × HasDuration P best (Some s)

-- The places that a round visited, and the lines at places after it.

abbrev pub VisitedIn : Table → RoundResult → ℕ → Type 0
VisitedIn table r = IsVisited table.rows (rows_after table.rows r)

abbrev pub line_after : Table → List TreeNode → RoundResult → ℕ → Seen
line_after table ns r = seen_row (rows_after table.rows r) ns (origins_after table.origins r)

-- A round on a table whose places stand for the nodes ns
pub record IsRound (P : Project) (workers : ℕ) (table : Table) (ns : List TreeNode) (records : Records) (frontier : List WaitingNode) (terms : Terms) (r : RoundResult) : Type 0 where
  pub more : List TreeNode
  -- each node of the frontier and each placed child is filled or left, once, and each child has its row, once; what is said
  -- holds with the best at the end
  pub grows : Grows P (searching r.best) table.rows ns (waiting_of frontier) (map (λ n. n.row) r.grown) more r.fills (waiting_of r.left)
  pub nodes : All (λ w. StandsFor P w.node) r.left
  pub moves : 0 < length r.fills
  pub used : expanded_rows (rows_after table.rows r) ≡ expanded_rows table.rows + r.used
  pub few : r.used ≤ terms.quota
  -- what is cited was expanded, in this round or before
  pub cites :
      (p q : ℕ) (F : List Entry) → VisitedIn table r p → says_at (rows_after table.rows r) p ≡ row_cites q → place_front (ns ++ more) p ≡ Some F →
      CitesRow P (rows_after table.rows r) (ns ++ more) q F
  -- what was expanded has its record, once
  pub made_few : length r.made ≡ r.used
  pub made_each : All (λ m. IsRecordOf P (rows_after table.rows r) (ns ++ more) m.place m.known) r.made
  pub made_all : (q : ℕ) → VisitedIn table r q → IsExpandedAt (rows_after table.rows r) q → Contains (map (λ m. m.place) r.made) q
  pub lean : IsLeanRound P workers terms records.index (VisitedIn table r) (line_after table (ns ++ more) r)
  -- the best is the least of that at the start and the ends of leaves
  pub best : IsLeast (IsEnd P terms.best (IsAmong (VisitedIn table r) (line_after table (ns ++ more) r))) (end_number r.best)
  pub falls : IsNoLater terms.best r.best
  pub soon : IfSome r.best (λ end. end ≤ 1290000)
  pub plan : BringsPlan P terms.best r.best r.plan

-- whatever nodes the table stands for while these wait
abbrev pub IsRoundOn : Project → ℕ → Table → Records → List WaitingNode → Terms → RoundResult → Type 0
IsRoundOn P workers table records frontier terms r =
    (ns : List TreeNode) → Stands P (searching terms.best) table.rows ns [] (waiting_of frontier) → length table.origins ≡ length table.rows → AreRecords P table.rows ns records →
    IsRound P workers table ns records frontier terms r
