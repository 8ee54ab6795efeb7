-- The nodes of a deque.
use Rattle.std.specs.Prelude.{◌≡◌, ℕ, ◌+◌, ◌<◌, ◌≤◌, List, [], ◌∷◌, All}
use Rattle.precedence_tree.specs.Node.{StandsFor}
use Rattle.node_deques.specs.declared.node.DequeNode.{DequeNode}
use Rattle.node_deques.specs.declared.view.NodeTerms.{NodeTerms}

-- the node stands for a front of the project, and its place lies between the two places of the terms
pub record IsOn (x : DequeNode) (terms : NodeTerms) : Type 0 where
  pub node : StandsFor terms.project x.node
  pub low : terms.from ≤ x.place
  pub high : x.place < terms.to

abbrev pub IsOnEach : List NodeTerms → DequeNode → Type 0
IsOnEach terms x = All (IsOn x) terms

-- their numbers are n and those that follow it
abbrev pub AreNumberedFrom : ℕ → List DequeNode → Type 0
AreNumberedFrom n [] = Unit {0}
AreNumberedFrom n (x ∷ xs) = (x.number ≡ n) × AreNumberedFrom (n + 1) xs

-- their numbers rise, and the first is at least n
abbrev pub RiseFrom : ℕ → List DequeNode → Type 0
RiseFrom n [] = Unit {0}
RiseFrom n (x ∷ xs) = (n ≤ x.number) × RiseFrom (x.number + 1) xs
