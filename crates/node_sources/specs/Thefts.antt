-- What a worker's reaches into others' deques do.
use Rattle.std.specs.Prelude.{◌≡◌, ℕ, ◌<◌, List, [], ◌∷◌, length, slice_index_or, slice_set}
use Rattle.node_deques.specs.declared.node.DequeNode.{DequeNode}
use Rattle.node_deques.specs.Steps as deques
use Rattle.node_sources.specs.declared.reach.Reach.{Reach}

-- the node came by this one
pub record StealsBy (before : Reach) (x : DequeNode) (after : Reach) : Type 0 where
  pub owner : after.owner ≡ before.owner
  pub deque : after.thief.deque ≡ before.thief.deque
  pub takes : deques.Takes before.thief.view (x ∷ []) after.thief.view

-- it came by one of these
pub record Steals (before : List Reach) (x : DequeNode) (after : List Reach) : Type 0 where
  pub index : ℕ
  pub within : index < length before
  pub reach : Reach
  pub by : StealsBy (slice_index_or before index reach) x reach
  pub others : after ≡ slice_set before index reach
