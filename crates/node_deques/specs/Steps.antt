-- What each kind of step tells the pass that makes it.
use Rattle.std.specs.Prelude.{◌≡◌, ◌+◌, ◌≤◌, List, length, All, Contains, IsPermutation}
use Rattle.node_deques.specs.declared.node.DequeNode.{DequeNode}
use Rattle.node_deques.specs.declared.view.DequeView.{DequeView}
use Rattle.node_deques.specs.Nodes.{IsOnEach}
use Rattle.node_deques.specs.Views.{with_taken, with_accepted}

-- the deque accepted the nodes
abbrev pub Accepts : DequeView → List DequeNode → DequeView → Type 0
Accepts v xs w = w ≡ with_accepted xs v

-- the pass took the nodes, and they are on its terms
pub record Takes (v : DequeView) (xs : List DequeNode) (w : DequeView) : Type 0 where
  pub view : w ≡ with_taken xs v
  pub on_terms : All (IsOnEach v.terms) xs

-- the owner took the nodes, which its deque had accepted; it has taken no more than that
pub record Pops (v : DequeView) (xs : List DequeNode) (w : DequeView) : Type 0 where
  pub takes : Takes v xs w
  pub accepted : All (Contains v.accepted) xs
  pub no_more : length w.taken ≤ length w.accepted

-- the pass stands for all that there are: the owner's, and each that was split off it
abbrev pub HasAllPasses : DequeView → Type 0
HasAllPasses v = v.passes ≡ 1 + v.split_off

-- where the owner's pass stands for all and its deque is empty, what it took is what was accepted, each node once
abbrev pub HasAllTaken : DequeView → Type 0
HasAllTaken v = HasAllPasses v → IsPermutation v.taken v.accepted
