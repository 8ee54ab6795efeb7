-- The views of all passes on a deque, in the order in which the passes came.
use Rattle.std.specs.Prelude.{◌≡◌, ℕ, ◌+◌, ◌<◌, List, [], ◌∷◌, ◌++◌}
use mathlib.Core.Option.{some}
use lib.ListN.{get_elem?}
use Rattle.node_deques.specs.declared.node.DequeNode.{DequeNode}
use Rattle.node_deques.specs.declared.view.DequeView.{DequeView}

-- the pass is there: it was not joined into another
abbrev pub IsLive : DequeView → Type 0
IsLive v = 0 < v.passes

-- view number i, from 0, is v
abbrev pub At : List DequeView → ℕ → DequeView → Type 0
At views i v = get_elem? views i ≡ some v

-- each view has the property
abbrev pub EachView : (DequeView → Type 0) → List DequeView → Type 0
EachView P views = (i : ℕ) (v : DequeView) → At views i v → P v

-- how many passes all views stand for
abbrev pub all_passes : List DequeView → ℕ
all_passes [] = 0
all_passes (v ∷ views) = v.passes + all_passes views

-- the nodes that all passes took, pass by pass
abbrev pub all_taken : List DequeView → List DequeNode
all_taken [] = []
all_taken (v ∷ views) = v.taken ++ all_taken views
