-- What the workers of a round did, put together, the first worker first.
use Rattle.std.specs.Prelude.{◌≡◌, ℕ, ◌+◌, ◌≤◌, nat_lt, if◌then◌else◌, false, Option, Some, None, List, [], ◌∷◌, ◌++◌, length, map}
use Rattle.atomic_table.specs.Seated.{TableId}
use Rattle.rcpsp_model.specs.declared.parts.Placing.{Placing}
use Rattle.rcpsp_model.specs.Project.{Project}
use Rattle.rcpsp_model.specs.Schedule.{end_of, entries, IsFeasible}
use Rattle.search_table.specs.declared.view.PassView.{PassView}
use Rattle.search_table.specs.Views.{joint_view}
use Rattle.once_cell.specs.declared.race.note.Note.{Note}
use Rattle.precedence_tree.specs.declared.base.Base.{Base}
use Rattle.tree_worker.specs.declared.live.LiveNote.{LiveNote}
use Rattle.node_sources.specs.declared.settling.Settled.{Settled}
use Rattle.node_sources.specs.Source.{SourceState}
use Rattle.node_sources.specs.Settled.{IsSettled}
use Rattle.search_rounds.specs.declared.round.WaitingNode.{WaitingNode}
use Rattle.round_shares.specs.Part.{PartState}
use Rattle.round_shares.specs.Crew.{Worked, starts_from, real_fill, real_record, real_waiting, crew_part}
use Rattle.steal_rounds.specs.declared.member.Member.{Member}
use Rattle.steal_rounds.specs.declared.gathering.Shown.{Shown}
use Rattle.steal_rounds.specs.declared.gathering.Published.{Published}
use Rattle.steal_rounds.specs.declared.gathering.Whole.{Whole}
use Rattle.steal_rounds.specs.Lists.{part_state}
use Rattle.steal_rounds.specs.Members.{progress_of}

abbrev pub whole_state : Whole → PartState
whole_state w = record { grown = w.grown.items; fills = w.fills.items; live = w.live.items; made = w.made.items; left = w.left.items }

-- Schedules.

-- it is feasible and ends soon enough to be offered
pub record IsShort (P : Project) (s : List Placing) : Type 0 where
  pub feasible : IsFeasible P s
  pub soon : end_of P (entries s) ≤ 1290000

-- the schedule that ends earlier, and the first one of two that end together
abbrev pub better_plan : Project → Option (List Placing) → Option (List Placing) → Option (List Placing)
better_plan P None other = other
better_plan P (Some s) None = Some s
better_plan P (Some s) (Some t) = if nat_lt (end_of P (entries t)) (end_of P (entries s)) then Some t else Some s

-- Workers.

abbrev pub IsOfTable : TableId → Member → Type 0
IsOfTable words m = m.pass.table ≡ words

-- memory wasn't refused to it
abbrev pub IsSound : Member → Type 0
IsSound m = m.failed ≡ false

abbrev pub joined_views : PassView → List Member → PassView
joined_views v [] = v
joined_views v (m ∷ ms) = joined_views (joint_view v m.pass.view) ms

-- what a worker did, apart from the nodes that it handled
abbrev pub worked : Member → Worked
worked m = record { at = progress_of m; part = part_state m.part; handled = record { got = []; given = [] } }

-- the lists of two parts: those of the second come behind, with their places in the table, where the first new row of each worker
-- has these places; what the second left is added when all have ended
abbrev pub joined_part : List ℕ → PartState → PartState → PartState
joined_part starts s t = record {
  grown = s.grown ++ t.grown;
  fills = s.fills ++ map (real_fill starts) t.fills;
  live = s.live ++ map (λ i. length s.fills + i) t.live;
  made = s.made ++ map (real_record starts) t.made;
  left = s.left;
}

abbrev pub source_of : Member → SourceState
source_of m = m.part.source

abbrev pub all_cited : List Member → List LiveNote
all_cited [] = []
all_cited (m ∷ ms) = m.worker.live ++ all_cited ms

-- a record of the worker, of which it has this note
abbrev pub by_worker : ℕ → Note Base → Shown
by_worker number note = record { worker = number; note = note }

-- what the worker published, where so many records were made before
pub record IsPublishedBy (made : ℕ) (m : Member) (p : Published) : Type 0 where
  pub first : p.first ≡ made
  pub shown : p.shown.items ≡ map (by_worker m.pass.view.number) m.worker.notes

-- what each published
abbrev pub ArePublishedBy : ℕ → List Member → List Published → Type 0
ArePublishedBy made [] [] = Unit {0}
ArePublishedBy made [] (p ∷ ps) = ⊥
ArePublishedBy made (m ∷ ms) [] = ⊥
ArePublishedBy made (m ∷ ms) (p ∷ ps) = IsPublishedBy made m p × ArePublishedBy (made + length m.part.made.items) ms ps

abbrev pub best_plan : Project → Option (List Placing) → List Member → Option (List Placing)
best_plan P plan [] = plan
best_plan P plan (m ∷ ms) = best_plan P (better_plan P plan m.worker.plan) ms

-- what the worker did comes behind what was there before
pub record AddsMember (P : Project) (starts : List ℕ) (m : Member) (before after : Whole) : Type 0 where
  pub lists : whole_state after ≡ joined_part starts (whole_state before) (part_state m.part)
  pub cited : after.cited.items ≡ before.cited.items ++ m.worker.live
  pub by : Published
  pub published : after.published.items ≡ before.published.items ++ by ∷ []
  pub is_by : IsPublishedBy (length before.made.items) m by
  pub plan : after.plan ≡ better_plan P before.plan m.worker.plan

-- the nodes of all lists, list by list
abbrev pub all_lists : List (List WaitingNode) → List WaitingNode
all_lists [] = []
all_lists (list ∷ lists) = list ++ all_lists lists

-- the sources were settled, and what they have comes behind what was there before, with its places in the table
pub record AddsLeft (starts : List ℕ) (ss : List SourceState) (before after : List WaitingNode) : Type 0 where
  pub settled : Settled
  pub is : IsSettled ss settled
  pub left : after ≡ before ++ map (real_waiting starts) (all_lists settled.lists.items ++ settled.rest)

-- it is what these workers did, on a table of so many rows, and what is left
pub record IsWholeOf (P : Project) (table : ℕ) (ms : List Member) (whole : Whole) : Type 0 where
  pub settled : Settled
  pub is_settled : IsSettled (map source_of ms) settled
  pub lists : whole_state whole ≡ crew_part (starts_from table (map worked ms)) (map worked ms) settled.rest
  pub cited : whole.cited.items ≡ all_cited ms
  pub published : ArePublishedBy 0 ms whole.published.items
  pub plan : whole.plan ≡ best_plan P None ms
