-- How the sources of a round are settled: they are taken apart, what came by each reach is joined into the deque that it leads to,
-- and the deques are emptied.
use Rattle.std.specs.Prelude.{◌≡◌, ℕ, ◌+◌, ◌-◌, List, [], ◌∷◌, ◌++◌, length, map, All, slice_index_or, slice_set}
use Rattle.rcpsp_model.specs.Project.{Project}
use Rattle.precedence_tree.specs.Node.{StandsFor}
use Rattle.search_log.specs.Weights.{total, Each}
use Rattle.search_rounds.specs.declared.round.WaitingNode.{WaitingNode}
use Rattle.node_deques.specs.declared.node.DequeNode.{DequeNode}
use Rattle.node_deques.specs.Handles.{HandleState}
use Rattle.node_deques.specs.Views.{joint_view}
use Rattle.node_deques.specs.Steps.{HasAllPasses}
use Rattle.node_sources.specs.declared.reach.Reach.{Reach}
use Rattle.node_sources.specs.declared.settling.Apart.{Apart}
use Rattle.node_sources.specs.Source.{SourceState, waiting, stolen}
use Rattle.node_sources.specs.Seats.{handle_of, right_of, IsWithin, AreReached}

abbrev pub all_reaches : List SourceState → List Reach
all_reaches [] = []
all_reaches (s ∷ ss) = s.reaches ++ all_reaches ss

-- the parts of the sources, source by source
pub record IsApart (ss : List SourceState) (apart : Apart) : Type 0 where
  pub deques : apart.deques.items ≡ map (λ s. s.deque) ss
  pub lists : apart.lists.items ≡ map (λ s. s.list) ss
  pub reaches : apart.reaches.items ≡ all_reaches ss

-- it is on the deque of its owner
abbrev pub LeadsInto : List HandleState → Reach → Type 0
LeadsInto ds r = (slice_index_or ds (r.owner - 1) r.thief).deque ≡ r.thief.deque

abbrev pub joint : HandleState → HandleState → HandleState
joint d thief = record d { view = joint_view d.view thief.view }

-- what came by the reach was joined into the deque of its owner
abbrev pub IsJoined : Reach → List HandleState → List HandleState → Type 0
IsJoined r before after = after ≡ slice_set before (r.owner - 1) (joint (slice_index_or before (r.owner - 1) r.thief) r.thief)

-- each of the reaches is on one of the deques, of which all passes are the owner's and theirs
pub record AreServed (rs : List Reach) (ds : List HandleState) : Type 0 where
  pub within : Each (IsWithin (length ds)) (map right_of rs)
  pub reached : AreReached (map right_of rs) 1 (map handle_of ds)

-- what owners took
abbrev pub popped : List HandleState → List DequeNode
popped [] = []
popped (d ∷ ds) = d.view.taken ++ popped ds

-- what deques accepted
abbrev pub accepted : List HandleState → List DequeNode
accepted [] = []
accepted (d ∷ ds) = d.view.accepted ++ accepted ds

-- what came by the reaches is with the owners now, who have all passes on their deques
pub record AreJoined (rs : List Reach) (before after : List HandleState) : Type 0 where
  pub passes : Each (λ d. HasAllPasses d.view) after
  pub accepted : accepted after ≡ accepted before
  pub taken : (weight : DequeNode → ℕ) → total weight (popped after) ≡ total weight (popped before) + total weight (stolen rs)

-- what nobody took out of the deques, where the owners have all that was taken
pub record IsLeftOf (ds : List HandleState) (rest : List WaitingNode) : Type 0 where
  pub once : (weight : WaitingNode → ℕ) → total weight (map waiting (popped ds)) + total weight rest ≡ total weight (map waiting (accepted ds))
  pub nodes : (P : Project) → All (λ x. StandsFor P x.node) (accepted ds) → All (λ w. StandsFor P w.node) rest
