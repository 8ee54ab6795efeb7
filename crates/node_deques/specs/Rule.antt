-- The rule of a deque: what holds of the nodes in it, the thieves' end first, and of the views of all passes between any two
-- steps, whoever makes them.
use Rattle.std.specs.Prelude.{◌≡◌, ℕ, ◌+◌, List, [], ◌++◌, All, Contains, IsPermutation}
use Rattle.node_deques.specs.declared.node.DequeNode.{DequeNode}
use Rattle.node_deques.specs.declared.view.NodeTerms.{NodeTerms}
use Rattle.node_deques.specs.declared.view.DequeView.{DequeView}
use Rattle.node_deques.specs.Nodes.{IsOnEach, AreNumberedFrom, RiseFrom}
use Rattle.node_deques.specs.Passes.{IsLive, At, EachView, all_passes, all_taken}

-- a pass has no terms but the owner's, and one that was joined into another has taken nothing
pub record IsPassBeside (owner v : DequeView) : Type 0 where
  pub terms : All (Contains owner.terms) v.terms
  pub spent : v.passes ≡ 0 → v.taken ≡ []

-- The first pass is the owner's. Each node that was accepted stands in one place, once: in the deque, or with the pass that took
-- it. Nodes have their numbers in the order in which they were accepted, and so they lie in the deque. All passes are the owner's
-- and those that were split off it
pub record KeepsNodes (owner : DequeView) (nodes : List DequeNode) (views : List DequeView) : Type 0 where
  pub first : At views 0 owner
  pub live : IsLive owner
  pub numbers : AreNumberedFrom 0 owner.accepted
  pub on_terms : All (IsOnEach owner.terms) owner.accepted
  pub once : IsPermutation (nodes ++ all_taken views) owner.accepted
  pub order : RiseFrom 0 nodes
  pub passes : all_passes views ≡ 1 + owner.split_off
  pub each : EachView (IsPassBeside owner) views

pub record HoldsBetweenSteps (nodes : List DequeNode) (views : List DequeView) : Type 0 where
  pub owner : DequeView
  pub keeps : KeepsNodes owner nodes views
