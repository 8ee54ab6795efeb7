-- What a source does when a node is taken from it or put to it.
use Rattle.std.specs.Prelude.{◌≡◌, ℕ, ◌+◌, ◌⊎◌, [], ◌∷◌, Contains}
use Rattle.rcpsp_model.specs.Project.{Project}
use Rattle.precedence_tree.specs.Node.{NodeState, StandsFor}
use Rattle.search_log.specs.Weights.{total}
use Rattle.search_log.specs.Stands.{Waiting}
use Rattle.search_rounds.specs.declared.round.WaitingNode.{WaitingNode}
use Rattle.search_rounds.specs.Round.{waits_at, waiting_of}
use Rattle.node_deques.specs.Views.{next_node, with_accepted}
use Rattle.node_sources.specs.Places.{IsElsewhere}
use Rattle.node_sources.specs.Source.{SourceState, given_by, taken_by, IsSourceOf}

-- it was the next of the list, or its own deque had accepted it, or it has a place of another worker
pub data IsTakenFrom (before : SourceState) (w : WaitingNode) (after : SourceState) : Type 0 where
  from_list : before ≡ record after { list = w ∷ after.list } → IsTakenFrom before w after
  from_own : after.list ≡ before.list → Contains (given_by before) w → IsTakenFrom before w after
  from_other : after.list ≡ before.list → IsElsewhere before.number w.place → IsTakenFrom before w after

-- The node was taken. However nodes are weighed, it is what the list has less, or what was taken out of deques more
pub record Takes (before : SourceState) (w : WaitingNode) (after : SourceState) : Type 0 where
  pub given : after.deque.view.accepted ≡ before.deque.view.accepted
  pub once : (weight : Waiting → ℕ) → total weight (waiting_of before.list) + total weight (waiting_of (taken_by after)) ≡ total weight (waiting_of after.list) + total weight (waiting_of (taken_by before)) + weight (waits_at w)
  pub stands : (P : Project) → IsSourceOf P before → StandsFor P w.node
  pub from : (P : Project) → IsSourceOf P before → IsTakenFrom before w after

-- its deque accepted the node
abbrev pub with_given : SourceState → ℕ → NodeState → SourceState
with_given s place node = record s { deque = record s.deque { view = with_accepted (next_node s.deque.view place node ∷ []) s.deque.view } }

-- it has the node by itself, before the others
abbrev pub with_first : SourceState → ℕ → NodeState → SourceState
with_first s place node = record s { list = record { place = place; node = node } ∷ s.list }

abbrev pub Puts : SourceState → ℕ → NodeState → SourceState → Type 0
Puts before place node after = (after ≡ with_given before place node) ⊎ (after ≡ with_first before place node)
