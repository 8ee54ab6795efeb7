-- The part of a worker in a round, or of several together, as far as it has come, stated at the table on which the round began.
use Rattle.std.specs.Prelude.{◌≡◌, ℕ, ◌+◌, ◌<◌, ◌≤◌, ◌⊎◌, Some, List, [], ◌++◌, length, map, All, Contains, slice_get, slice_index, slice_index_or}
use Rattle.std.specs.List.{AllZip}
use Rattle.rcpsp_model.specs.declared.parts.Entry.{Entry}
use Rattle.rcpsp_model.specs.Project.{Project}
use Rattle.rcpsp_model.specs.Schedule.{end_of}
use Rattle.rcpsp_model.specs.Bounds.{LowerValue}
use Rattle.rcpsp_model.specs.Dominance.{Dominates}
use Rattle.log_truth.specs.Fates.{late_leaf}
use Rattle.precedence_tree.specs.declared.base.Base.{Base}
use Rattle.precedence_tree.specs.Base.{IsBaseOf}
use Rattle.cutset_store.specs.Index.{fronts_of}
use Rattle.search_log.specs.declared.row.Origin.{Origin}
use Rattle.search_log.specs.declared.row.Fill.{Fill}
use Rattle.search_log.specs.declared.table.Table.{Table}
use Rattle.search_log.specs.Weights.{total, Each}
use Rattle.search_log.specs.Fates.{RowSaying, row_open, row_expanded, row_late, row_cites, row_shut, row_saying}
use Rattle.search_log.specs.Table.{says_row}
use Rattle.search_log.specs.Stands.{TreeNode, place_front, searching, IsAtPlace, Grows, one_expanded}
use Rattle.search_log.specs.Lean.{end_number}
use Rattle.search_rounds.specs.declared.round.NewRow.{NewRow}
use Rattle.search_rounds.specs.declared.round.WaitingNode.{WaitingNode}
use Rattle.search_rounds.specs.declared.round.PlacedRecord.{PlacedRecord}
use Rattle.search_rounds.specs.declared.round.Records.{Records}
use Rattle.search_rounds.specs.declared.round.Terms.{Terms}
use Rattle.search_rounds.specs.Round.{waiting_of}
use Rattle.tree_worker.specs.declared.live.LiveNote.{LiveNote}
use Rattle.tree_worker.specs.Worker.{Progress}
use Rattle.round_shares.specs.Ends.{end_in}

-- with what a part begins: the table and the records of earlier rounds, the nodes that are dealt, the terms of the round, and
-- the numbers of its workers, from the first to the last
pub record Beginning : Type 0 where
  pub table : Table
  pub records : Records
  pub dealt : List WaitingNode
  pub terms : Terms
  pub first_worker : ℕ
  pub last_worker : ℕ

-- the table stands for these nodes, what is dealt waits at its places, and the records of earlier rounds have rows in it
pub record BeginsOn (b : Beginning) (ns : List TreeNode) : Type 0 where
  pub size : length ns ≡ length b.table.rows
  pub dealt : Each (IsAtPlace ns) (waiting_of b.dealt)
  pub records : Each (λ q. q < length b.table.rows) b.records.places

-- visited by one of its workers
pub record IsByOneOf (b : Beginning) (origin : Origin) : Type 0 where
  pub from : b.first_worker ≤ origin.worker
  pub to : origin.worker ≤ b.last_worker

-- the lists of a part: new rows, fills, the numbers, from 0, of those fills of which a live record is the cause, records of
-- what was expanded, and what waits
pub record PartState : Type 0 where
  pub grown : List NewRow
  pub fills : List Fill
  pub live : List ℕ
  pub made : List PlacedRecord
  pub left : List WaitingNode

-- Visits that filled a row.

-- a fill, with the front of its node
pub record Event : Type 0 where
  pub fill : Fill
  pub front : List Entry

abbrev pub fills_of : List Event → List Fill
fills_of events = map (λ e. e.fill) events

abbrev pub says_event : Event → RowSaying
says_event e = row_saying e.fill.fate

-- it expanded the node, whose children have the places from the first on, so many
pub record IsExpansion (e : Event) : Type 0 where
  pub first : ℕ
  pub count : ℕ
  pub is : says_event e ≡ row_expanded first count

abbrev pub IsAtNode : List TreeNode → Event → Type 0
IsAtNode ns e = place_front ns e.fill.place ≡ Some e.front

-- It is one of the visits in the round, and a leaf ends no earlier than the least best seen. What is expanded has each bound
-- below the best at the start, and no record of earlier rounds dominates it
pub record IsEventOf (P : Project) (b : Beginning) (best : ℕ) (e : Event) : Type 0 where
  pub round : e.fill.origin.round ≡ b.terms.number
  pub worker : IsByOneOf b e.fill.origin
  pub leaf : says_event e ≡ row_late late_leaf → best ≤ end_of P e.front
  pub early : IsExpansion e → (n : ℕ) → LowerValue P e.front n → n < end_number b.terms.best
  pub new : IsExpansion e → All (λ base. Dominates P base.front e.front → ⊥) b.records.index

abbrev pub IsSameWorker : Event → Event → Type 0
IsSameWorker e f = e.fill.origin.worker ≡ f.fill.origin.worker

-- the place is none of those of the children of the expansion
abbrev pub IsNoChildOf : (f : Event) → IsExpansion f → ℕ → Type 0
IsNoChildOf f x p = x.first ≤ p → p < x.first + x.count → ⊥

-- Each expansion of a worker has a turn of its own. No front that a worker expanded dominates one that it expanded at a later turn,
-- and what it visited up to the turn of an expansion is none of its children
pub record AreInTurns (P : Project) (events : List Event) : Type 0 where
  pub few : (e : Event) → Contains events e → e.fill.origin.turn ≤ length events
  pub one : (e f : Event) → Contains events e → Contains events f → IsSameWorker e f → IsExpansion e → IsExpansion f → e.fill.origin.turn ≡ f.fill.origin.turn → e ≡ f
  pub own : (e f : Event) → Contains events e → Contains events f → IsSameWorker e f → IsExpansion e → IsExpansion f → e.fill.origin.turn < f.fill.origin.turn → Dominates P e.front f.front → ⊥
  pub before : (e f : Event) (x : IsExpansion f) → Contains events e → Contains events f → IsSameWorker e f → e.fill.origin.turn ≤ f.fill.origin.turn → IsNoChildOf f x e.fill.place

-- the row at the place q is that of a record of earlier rounds, or was expanded in one of these events; its front dominates F
pub data IsCitedIn (P : Project) (b : Beginning) (events : List Event) (q : ℕ) (F : List Entry) : Type 0 where
  by_earlier : (i : ℕ) → i < length b.records.places → q ≡ slice_index b.records.places i → Dominates P (slice_index_or (fronts_of b.records.index) i []) F → IsCitedIn P b events q F
  by_own : (e : Event) → Contains events e → IsExpansion e → q ≡ e.fill.place → Dominates P e.front F → IsCitedIn P b events q F

-- the note of a live record knows one whose front dominates that of event number i, from 0, which cites some row
pub record IsCitedLive (P : Project) (events : List Event) (i : ℕ) (live : LiveNote) : Type 0 where
  pub event : Event
  pub is_at : slice_get events i ≡ Some event
  pub row : ℕ
  pub cites : says_event event ≡ row_cites row
  pub base : Base
  pub known : live.note.known ≡ Some base
  pub dominates : Dominates P base.front event.front

-- the record is of the front that was expanded in this event
pub record IsMadeBy (P : Project) (m : PlacedRecord) (e : Event) : Type 0 where
  pub expansion : IsExpansion e
  pub place : m.place ≡ e.fill.place
  pub front : m.known.front ≡ e.front
  pub known : IsBaseOf P m.known

-- of one of these events
pub record IsMadeIn (P : Project) (events : List Event) (m : PlacedRecord) : Type 0 where
  pub event : Event
  pub among : Contains events event
  pub is : IsMadeBy P m event

-- there is a record of the front that was expanded in this event
pub record HasRecord (made : List PlacedRecord) (e : Event) : Type 0 where
  pub made_record : PlacedRecord
  pub among : Contains made made_record
  pub place : made_record.place ≡ e.fill.place
  pub front : made_record.known.front ≡ e.front

-- the end was offered: it is that of a leaf among the events, and is less than the best at the start
pub record IsOffered (P : Project) (b : Beginning) (events : List Event) (end : ℕ) : Type 0 where
  pub event : Event
  pub among : Contains events event
  pub leaf : says_event event ≡ row_late late_leaf
  pub is : end ≡ end_of P event.front
  pub less : end < end_number b.terms.best
  pub soon : end ≤ 1290000

-- a row of a child: nothing is said of it yet, or it is shut
abbrev pub IsNewSaying : RowSaying → Type 0
IsNewSaying row_open = Unit {0}
IsNewSaying (row_shut why) = Unit {0}
IsNewSaying _ = ⊥

pub record IsNewRow (b : Beginning) (n : NewRow) : Type 0 where
  pub says : IsNewSaying (says_row n.row)
  pub round : n.origin.round ≡ b.terms.number
  pub worker : IsByOneOf b n.origin

-- Whatever nodes the table stands for: what came is one coming, and each visit did what it may
pub record IsPartAt (P : Project) (b : Beginning) (ns : List TreeNode) (at : Progress) (s : PartState) : Type 0 where
  pub more : List TreeNode
  pub events : List Event
  pub fills : s.fills ≡ fills_of events
  pub grows : Grows P (searching (end_in at.pass.least_seen)) b.table.rows ns (waiting_of b.dealt) (map (λ n. n.row) s.grown) more s.fills (waiting_of s.left)
  pub at_nodes : Each (IsAtNode (ns ++ more)) events
  pub each : Each (IsEventOf P b at.pass.least_seen) events
  pub turns : AreInTurns P events
  pub cites : (i q : ℕ) (e : Event) → slice_get events i ≡ Some e → says_event e ≡ row_cites q → IsCitedIn P b events q e.front ⊎ Contains s.live i
  pub live : AllZip (IsCitedLive P events) s.live at.worker.live
  pub made : All (IsMadeIn P events) s.made
  pub made_all : (e : Event) → Contains events e → IsExpansion e → HasRecord s.made e
  pub offered : All (IsOffered P b events) at.pass.offers

-- the part, whatever nodes the table stands for
pub record IsPart (P : Project) (b : Beginning) (at : Progress) (s : PartState) : Type 0 where
  pub falls : at.pass.least_seen ≤ end_number b.terms.best
  pub rows : Each (IsNewRow b) s.grown
  pub fronts : map (λ m. m.known.front) s.made ≡ fronts_of at.worker.expanded
  pub expanded : total (λ f. one_expanded (row_saying f.fate)) s.fills ≡ length s.made
  pub at_tree : (ns : List TreeNode) → BeginsOn b ns → IsPartAt P b ns at s
