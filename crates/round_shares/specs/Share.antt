-- What one worker did in a round, said without the nodes of others. Each worker has a range of places of its own for its new rows,
-- and what it visits may stand anywhere: it was dealt, or it is a child of its own or of another's expansion.
use Rattle.std.specs.Prelude.{◌≡◌, ℕ, ◌+◌, ◌-◌, ◌*◌, ◌<◌, ◌≤◌, ◌⊎◌, Option, Some, None, List, [], ◌∷◌, ◌++◌, length, map, All, Contains, slice_get}
use Rattle.std.specs.List.{AllZip}
use Rattle.rcpsp_model.specs.declared.parts.Entry.{Entry}
use Rattle.rcpsp_model.specs.declared.parts.Verdict.{Verdict}
use Rattle.rcpsp_model.specs.Project.{Project}
use Rattle.log_truth.specs.Log.{front_at, IsLineAt}
use Rattle.log_truth.specs.Holds.{IsLate}
use Rattle.cutset_store.specs.Index.{fronts_of}
use Rattle.search_log.specs.declared.row.Row.{Row}
use Rattle.search_log.specs.Weights.{total, over, Each}
use Rattle.search_log.specs.Fates.{RowSaying, row_open, row_expanded, row_late, row_cites, row_shut, row_saying}
use Rattle.search_log.specs.Table.{says_row, children_of}
use Rattle.search_log.specs.Stands.{TreeNode, line_of, searching, HasChildren, Waiting, one_expanded}
use Rattle.search_log.specs.Lean.{end_number}
use Rattle.search_rounds.specs.Round.{waiting_of}
use Rattle.tree_worker.specs.Worker.{Progress}
use Rattle.round_shares.specs.Ends.{end_in}
use Rattle.round_shares.specs.Part.{Beginning, PartState, Event, fills_of, says_event, IsExpansion, IsEventOf, AreInTurns, IsCitedIn, IsCitedLive, IsMadeIn, HasRecord, IsOffered, IsNewRow}

-- Places.

-- how many places each worker has for its new rows; the table of the round has as many before them
abbrev pub room : ℕ
room = 67108864

-- the place of the first new row of a worker
abbrev pub first_place : ℕ → ℕ
first_place worker = worker * room

-- no row of the worker that has its places from `start` on, so many so far, will get this place later on
abbrev pub IsPast : ℕ → ℕ → ℕ → Type 0
IsPast start count p = (p < start + count) ⊎ (start + room ≤ p)

-- Nodes.

-- what waited before the visit
abbrev pub visited : Event → Waiting
visited e = record { place = e.fill.place; front = e.front }

-- the front, where there is one, waits at the place
abbrev pub born_at : ℕ → Option (List Entry) → List Waiting
born_at p None = []
born_at p (Some F) = record { place = p; front = F } ∷ []

-- the fronts of these nodes, which have the places from p on
abbrev pub born : ℕ → List TreeNode → List Waiting
born p [] = []
born p (node ∷ more) = born_at p node.front ++ born (p + 1) more

-- nothing is said of a row whose branch leads to a front, and any other is shut
abbrev pub IsNewAt : Option (List Entry) → RowSaying → Type 0
IsNewAt (Some F) row_open = Unit {0}
IsNewAt None (row_shut why) = Unit {0}
IsNewAt _ _ = ⊥

-- the row is a new one of this node
pub record IsRowFor (P : Project) (node : TreeNode) (r : Row) : Type 0 where
  pub line : IsLineAt P node.branch (line_of [] r)
  pub front : front_at node.branch (line_of [] r) ≡ node.front
  pub says : IsNewAt node.front (says_row r)

-- what is said of a front is right, apart from what is cited; its children have rows among those of these nodes, which have the
-- places from `start` on
abbrev pub SuitsFront : Project → Verdict → ℕ → List TreeNode → List Entry → RowSaying → Type 0
SuitsFront P verdict start more F (row_expanded first count) = (start ≤ first) × HasChildren P more F (first - start) count
SuitsFront P verdict start more F (row_late reason) = IsLate P verdict F reason
SuitsFront P verdict start more F (row_cites q) = Unit {0}
SuitsFront P verdict start more F _ = ⊥

-- A share.

-- the nodes that a worker got, dealt to it or taken from a deque, and those that it gave to its own deque
pub record Handled : Type 0 where
  pub got : List Waiting
  pub given : List Waiting

-- The share of the first worker of the beginning, which is the last one too. However nodes are weighed: what it visited, what it
-- left and what it gave away weigh what it got and the open rows of the children that it made
pub record IsShare (P : Project) (b : Beginning) (h : Handled) (at : Progress) (s : PartState) : Type 0 where
  pub more : List TreeNode
  pub events : List Event
  pub fills : s.fills ≡ fills_of events
  pub falls : at.pass.least_seen ≤ end_number b.terms.best
  pub new : Each (IsNewRow b) s.grown
  pub rows : AllZip (IsRowFor P) more (map (λ n. n.row) s.grown)
  pub fronts : map (λ m. m.known.front) s.made ≡ fronts_of at.worker.expanded
  pub expanded : total (λ f. one_expanded (row_saying f.fate)) s.fills ≡ length s.made
  pub account : (weight : ℕ → ℕ) → over (λ k r. weight k) (first_place b.first_worker) s.grown ≡ total (λ f. total weight (children_of (row_saying f.fate))) s.fills
  pub once : (weight : Waiting → ℕ) → total weight (map visited events) + total weight (waiting_of s.left) + total weight h.given ≡ total weight h.got + total weight (born (first_place b.first_worker) more)
  pub past : Each (λ w. IsPast (first_place b.first_worker) (length s.grown) w.place) (map visited events ++ (waiting_of s.left ++ h.given))
  pub suits : Each (λ e. SuitsFront P (searching (end_in at.pass.least_seen)) (first_place b.first_worker) more e.front (says_event e)) events
  pub each : Each (IsEventOf P b at.pass.least_seen) events
  pub turns : AreInTurns P events
  pub cites : (i q : ℕ) (e : Event) → slice_get events i ≡ Some e → says_event e ≡ row_cites q → IsCitedIn P b events q e.front ⊎ Contains s.live i
  pub live : AllZip (IsCitedLive P events) s.live at.worker.live
  pub made : All (IsMadeIn P events) s.made
  pub made_all : (e : Event) → Contains events e → IsExpansion e → HasRecord s.made e
  pub offered : All (IsOffered P b events) at.pass.offers
