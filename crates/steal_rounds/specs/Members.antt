-- The workers of a round: how they begin, and what each has done.
use Rattle.std.specs.Prelude.{◌≡◌, ℕ, ◌+◌, ◌<◌, ◌≤◌, false, List, [], ◌∷◌, length}
use Rattle.atomic_table.specs.Seated.{TableId}
use Rattle.rcpsp_model.specs.Project.{Project, numbers_from}
use Rattle.search_rounds.specs.declared.round.Records.{Records}
use Rattle.search_table.specs.declared.view.PassView.{PassView}
use Rattle.search_table.specs.Views.{worker_view}
use Rattle.shared_rows.specs.Rows.{RowsState}
use Rattle.tree_worker.specs.Worker.{Progress, new_worker, IsAtWork}
use Rattle.tree_worker.specs.Visits.{StaysOf}
use Rattle.node_sources.specs.Source.{SourceState, IsSourceOf}
use Rattle.node_sources.specs.Seats.{Stays}
use Rattle.steal_rounds.specs.declared.member.Member.{Member}
use Rattle.steal_rounds.specs.Lists.{part_state, new_part}
use Rattle.steal_rounds.specs.Turns.{Stage, stage_of, KeepsShare, Counts}

abbrev pub progress_of : Member → Progress
progress_of m = record { worker = m.worker; pass = m.pass.view }

abbrev pub member_stage : Member → Stage
member_stage m = stage_of m.worker m.pass m.part

-- of the first pass, after the passes of the workers from 1 to n were split off
abbrev pub with_workers : ℕ → PassView → PassView
with_workers n v = record v { split_off = numbers_from 1 n }

-- a worker of this number that has done nothing, with a pass that was split off one of this view, and this source of nodes
pub record IsSeated (table : TableId) (v : PassView) (number : ℕ) (s : SourceState) (m : Member) : Type 0 where
  pub pass_table : m.pass.table ≡ table
  pub pass : m.pass.view ≡ worker_view number v
  pub worker : m.worker ≡ new_worker number
  pub part : part_state m.part ≡ new_part s.list
  pub source : m.part.source ≡ s

-- the workers of these numbers, from the first on, each with its source
abbrev pub AreSeated : TableId → PassView → ℕ → List SourceState → List Member → Type 0
AreSeated table v number [] [] = Unit {0}
AreSeated table v number [] (m ∷ ms) = ⊥
AreSeated table v number (s ∷ ss) [] = ⊥
AreSeated table v number (s ∷ ss) (m ∷ ms) = IsSeated table v number s m × AreSeated table v (number + 1) ss ms

-- it may begin
pub record IsReady (P : Project) (words : TableId) (rows : RowsState) (m : Member) : Type 0 where
  pub table : m.pass.table ≡ words
  pub work : IsAtWork P rows (progress_of m)
  pub unrefused : m.pass.view.refused ≡ 0
  pub source : IsSourceOf P m.part.source
  pub own : m.part.source.number ≡ m.pass.view.number
  pub number : m.pass.view.number ≤ 32
  pub fresh : m.part.fills.items ≡ []
  pub counts : Counts (member_stage m)

-- it has ended its part
pub record IsDone (P : Project) (records : Records) (rows : RowsState) (round : ℕ) (before after : Member) : Type 0 where
  pub work : IsAtWork P rows (progress_of after)
  pub counts : Counts (member_stage after)
  pub few : length after.part.fills.items ≤ 65536
  pub moves : 0 < length before.part.source.list → 0 < length after.part.fills.items + after.pass.view.refused
  pub keeps : KeepsShare P records (record { round = round; worker = before.pass.view.number; turn = 0 }) (member_stage before) (member_stage after)

-- it has ended its part, or memory was refused to it
pub record Went (P : Project) (records : Records) (rows : RowsState) (round : ℕ) (before after : Member) : Type 0 where
  pub pass_table : after.pass.table ≡ before.pass.table
  pub stays : StaysOf before.pass.view after.pass.view
  pub source : Stays before.part.source after.part.source
  pub done : after.failed ≡ false → IsDone P records rows round before after
