-- What each call makes of the view of a pass.
use Rattle.std.specs.Prelude.{ℕ, ◌+◌, List, [], ◌∷◌, ◌++◌, length}
use Rattle.precedence_tree.specs.Node.{NodeState}
use Rattle.node_deques.specs.declared.node.DequeNode.{DequeNode}
use Rattle.node_deques.specs.declared.view.NodeTerms.{NodeTerms}
use Rattle.node_deques.specs.declared.view.DequeView.{DequeView}

-- of a pass that has done nothing, on these terms
abbrev pub new_view : List NodeTerms → DequeView
new_view terms = record { terms = terms; accepted = []; taken = []; passes = 1; split_off = 0 }

-- what stays of a pass that was joined into another
abbrev pub spent_view : DequeView
spent_view = record { terms = []; accepted = []; taken = []; passes = 0; split_off = 0 }

-- of the owner's pass, where these are terms too
abbrev pub with_terms : NodeTerms → DequeView → DequeView
with_terms terms v = record v { terms = terms ∷ v.terms }

-- the node that the owner's deque accepts next, with its number
abbrev pub next_node : DequeView → ℕ → NodeState → DequeNode
next_node v place node = record { number = length v.accepted; place = place; node = node }

-- of the owner's pass, after its deque accepted these nodes
abbrev pub with_accepted : List DequeNode → DequeView → DequeView
with_accepted xs v = record v { accepted = v.accepted ++ xs }

-- of a pass that took these nodes
abbrev pub with_taken : List DequeNode → DequeView → DequeView
with_taken xs v = record v { taken = v.taken ++ xs }

-- of the owner's pass, after a thief's was split off
abbrev pub with_thief : DequeView → DequeView
with_thief v = record v { split_off = v.split_off + 1 }

-- of the pass of a thief that is split off
abbrev pub thief_view : DequeView → DequeView
thief_view v = new_view v.terms

-- of the owner's pass, into which a thief's was joined
abbrev pub joint_view : DequeView → DequeView → DequeView
joint_view v w = record v { taken = v.taken ++ w.taken; passes = v.passes + w.passes }
