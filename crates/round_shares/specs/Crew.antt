-- What the workers of a round did, put together: the new rows of each worker stand behind those of the workers before it.
use Rattle.std.specs.Prelude.{◌≡◌, ℕ, ◌+◌, ◌-◌, ◌/◌, ◌%◌, ◌<◌, ◌≤◌, nat_lt, if◌then◌else◌, List, [], ◌∷◌, ◌++◌, length, map, slice_index}
use Rattle.rcpsp_model.specs.Project.{Project}
use Rattle.search_log.specs.declared.row.RowFate.{RowFate}
use Rattle.search_log.specs.declared.row.RowFate.TheVariants.{Expanded, Cited}
use Rattle.search_log.specs.declared.row.Fill.{Fill}
use Rattle.search_log.specs.Weights.{total}
use Rattle.search_log.specs.Stands.{Waiting}
use Rattle.search_log.specs.Lean.{end_number}
use Rattle.search_rounds.specs.declared.round.NewRow.{NewRow}
use Rattle.search_rounds.specs.declared.round.PlacedRecord.{PlacedRecord}
use Rattle.search_rounds.specs.declared.round.WaitingNode.{WaitingNode}
use Rattle.search_rounds.specs.Round.{waiting_of}
use Rattle.search_table.specs.Views.{joint_view}
use Rattle.tree_worker.specs.Worker.{Progress}
use Rattle.round_shares.specs.Part.{Beginning, PartState}
use Rattle.round_shares.specs.Share.{room, Handled, IsShare}

-- a worker at the end of its part
pub record Worked : Type 0 where
  pub at : Progress
  pub part : PartState
  pub handled : Handled

-- the same beginning, of one worker alone
abbrev pub of_worker : ℕ → Beginning → Beginning
of_worker worker b = record b { first_worker = worker; last_worker = worker }

-- the share of a worker that had more room than its new rows take
pub record HasShare (P : Project) (b : Beginning) (worker : ℕ) (w : Worked) : Type 0 where
  pub share : IsShare P (of_worker worker b) w.handled w.at w.part
  pub few : length w.part.grown < room

-- those of the workers from this number on
abbrev pub HaveShares : Project → Beginning → ℕ → List Worked → Type 0
HaveShares P b worker [] = Unit {0}
HaveShares P b worker (w ∷ ws) = HasShare P b worker w × HaveShares P b (worker + 1) ws

-- Places.

-- the places in the table of the first new row of each worker, where the first worker's is p
abbrev pub starts_from : ℕ → List Worked → List ℕ
starts_from p [] = []
starts_from p (w ∷ ws) = p ∷ starts_from (p + length w.part.grown) ws

-- the place in the table of a place of a share
abbrev pub real_place : List ℕ → ℕ → ℕ
real_place starts p = if nat_lt p room then p else slice_index starts (p / room - 1) + p % room

abbrev pub real_fate : List ℕ → RowFate → RowFate
real_fate starts (Expanded count first) = Expanded count (real_place starts first)
real_fate starts (Cited q) = Cited (real_place starts q)
real_fate starts fate = fate

abbrev pub real_fill : List ℕ → Fill → Fill
real_fill starts f = record { place = real_place starts f.place; fate = real_fate starts f.fate; origin = f.origin }

abbrev pub real_record : List ℕ → PlacedRecord → PlacedRecord
real_record starts m = record m { place = real_place starts m.place }

abbrev pub real_waiting : List ℕ → WaitingNode → WaitingNode
real_waiting starts w = record w { place = real_place starts w.place }

-- The lists of all.

abbrev pub all_grown : List Worked → List NewRow
all_grown [] = []
all_grown (w ∷ ws) = w.part.grown ++ all_grown ws

abbrev pub all_fills : List Worked → List Fill
all_fills [] = []
all_fills (w ∷ ws) = w.part.fills ++ all_fills ws

-- the numbers of fills, where so many fills come before
abbrev pub all_live : ℕ → List Worked → List ℕ
all_live n [] = []
all_live n (w ∷ ws) = map (λ i. n + i) w.part.live ++ all_live (n + length w.part.fills) ws

abbrev pub all_made : List Worked → List PlacedRecord
all_made [] = []
all_made (w ∷ ws) = w.part.made ++ all_made ws

abbrev pub all_left : List Worked → List WaitingNode
all_left [] = []
all_left (w ∷ ws) = w.part.left ++ all_left ws

abbrev pub all_got : List Worked → List Waiting
all_got [] = []
all_got (w ∷ ws) = w.handled.got ++ all_got ws

abbrev pub all_given : List Worked → List Waiting
all_given [] = []
all_given (w ∷ ws) = w.handled.given ++ all_given ws

-- however nodes are weighed: what all workers got, and what nobody took out of the deques, weighs what was dealt and what was
-- given to deques
abbrev pub IsHandedOn : List WaitingNode → List Worked → List WaitingNode → Type 0
IsHandedOn dealt ws rest = (weight : Waiting → ℕ) → total weight (all_got ws) + total weight (waiting_of rest) ≡ total weight (waiting_of dealt) + total weight (all_given ws)

-- the lists of all workers, with their places in the table, and what nobody took
abbrev pub crew_part : List ℕ → List Worked → List WaitingNode → PartState
crew_part starts ws rest = record {
  grown = all_grown ws;
  fills = map (real_fill starts) (all_fills ws);
  live = all_live 0 ws;
  made = map (real_record starts) (all_made ws);
  left = map (real_waiting starts) (all_left ws ++ rest);
}

-- Progress.

-- what was expanded and cited live by both, and what their passes have seen and done
abbrev pub joined_progress : Progress → Progress → Progress
joined_progress a d = record {
  worker = record a.worker { expanded = a.worker.expanded ++ d.worker.expanded; live = a.worker.live ++ d.worker.live };
  pass = joint_view a.pass d.pass;
}

abbrev pub crew_progress : Progress → List Worked → Progress
crew_progress at [] = at
crew_progress at (w ∷ ws) = crew_progress (joined_progress at w.at) ws

-- a pass that has seen the best at the start, and a worker, both of which have done nothing
pub record IsFresh (b : Beginning) (at : Progress) : Type 0 where
  pub seen : at.pass.least_seen ≤ end_number b.terms.best
  pub offers : at.pass.offers ≡ []
  pub expanded : at.worker.expanded ≡ []
  pub live : at.worker.live ≡ []

-- the beginning is that of these workers, who have the numbers from 1 on, on a table that leaves each its room
pub record IsOfCrew (b : Beginning) (ws : List Worked) : Type 0 where
  pub first : b.first_worker ≡ 1
  pub last : b.last_worker ≡ length ws
  pub fits : length b.table.rows ≤ room
