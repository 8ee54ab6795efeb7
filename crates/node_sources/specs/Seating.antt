-- How the sources of a round are made.
use Rattle.std.specs.Prelude.{◌≡◌, ℕ, ◌+◌, ◌-◌, List, [], ◌∷◌, ◌++◌, map, slice_index_or, slice_set}
use Rattle.std.specs.declared.alloc.Global.{Global}
use Rattle.std.specs.declared.vec.Vec.{Vec}
use Rattle.rcpsp_model.specs.Project.{Project, numbers_from}
use Rattle.search_rounds.specs.declared.round.WaitingNode.{WaitingNode}
use Rattle.node_deques.specs.Views.{with_thief, thief_view}
use Rattle.node_sources.specs.declared.reach.Reach.{Reach}
use Rattle.node_sources.specs.Source.{SourceState}
use Rattle.node_sources.specs.Settled.{IsNew, AreNew}

-- the numbers of the other workers, of so many, from the one behind this one on; behind the last comes the first
abbrev pub others_behind : ℕ → ℕ → List ℕ
others_behind worker count = numbers_from (worker + 1) (count - worker) ++ numbers_from 1 (worker - 1)

-- the workers into whose deques it reaches, in the order of its reaches
abbrev pub reached_by : SourceState → List ℕ
reached_by s = map (λ r. r.owner) s.reaches

-- it reaches into the deque of each other worker, of so many, once, that of the next one first
abbrev pub ReachesOthers : ℕ → SourceState → Type 0
ReachesOthers count s = reached_by s ≡ others_behind s.number count

-- a new source of the worker, which has no reach, and whose deque nobody reaches
pub record IsLone (P : Project) (worker : ℕ) (dealt : Vec WaitingNode Global) (s : SourceState) : Type 0 where
  pub new : IsNew P dealt s
  pub number : s.number ≡ worker
  pub passes : s.deque.view.passes ≡ 1
  pub split_off : s.deque.view.split_off ≡ 0
  pub reaches : s.reaches ≡ []

-- a thief was split off for a reach into the deque
pub record SplitsOff (before : SourceState) (r : Reach) (after : SourceState) : Type 0 where
  pub split : after ≡ record before { deque = record before.deque { view = with_thief before.deque.view } }
  pub reach : r ≡ record { owner = before.number; thief = record { deque = before.deque.deque; view = thief_view before.deque.view } }

abbrev pub with_reach : Reach → SourceState → SourceState
with_reach r s = record s { reaches = s.reaches ++ r ∷ [] }

-- new sources stay new ones, of the same project and with the same nodes
abbrev pub KeepsNew : List SourceState → List SourceState → Type 0
KeepsNew before after = (P : Project) (dealt : List (Vec WaitingNode Global)) → AreNew P dealt before → AreNew P dealt after

-- the workers' numbers
abbrev pub numbers_of : List SourceState → List ℕ
numbers_of ss = map (λ s. s.number) ss

-- for each source, the workers whom it reaches
abbrev pub all_reached : List SourceState → List (List ℕ)
all_reached ss = map reached_by ss

-- the source at this place, from 0, reaches these workers too, behind those whom it reached; the others reach whom they reached
pub record ReachesMore (place : ℕ) (more : List ℕ) (before after : List SourceState) : Type 0 where
  pub numbers : numbers_of after ≡ numbers_of before
  pub reached : all_reached after ≡ slice_set (all_reached before) place (slice_index_or (all_reached before) place [] ++ more)
