-- The nodes of a frontier, dealt out to workers.
use Rattle.std.specs.Prelude.{◌≡◌, ◌⊎◌, ℕ, ◌+◌, List, [], ◌∷◌, ◌++◌, All, Contains}
use Rattle.std.specs.declared.vec.Vec.{Vec}
use Rattle.std.specs.declared.alloc.Global.{Global}
use Rattle.search_log.specs.Weights.{total}
use Rattle.search_rounds.specs.declared.round.WaitingNode.{WaitingNode}

-- the nodes of all lists, list by list
abbrev pub all_dealt : List (Vec WaitingNode Global) → List WaitingNode
all_dealt [] = []
all_dealt (list ∷ lists) = list.items ++ all_dealt lists

-- one node more, however nodes are weighed
pub record Adds (node : WaitingNode) (before after : List WaitingNode) : Type 0 where
  pub weighs : (h : WaitingNode → ℕ) → total h after ≡ total h before + h node
  pub from : (x : WaitingNode) → Contains after x → Contains before x ⊎ (node ≡ x)

-- the nodes of a frontier, dealt in some order, or those that are left, handed on in some order
pub record AreDealt (frontier dealt : List WaitingNode) : Type 0 where
  pub places : (h : ℕ → ℕ) → total (λ w. h w.place) dealt ≡ total (λ w. h w.place) frontier
  pub among : All (Contains frontier) dealt
