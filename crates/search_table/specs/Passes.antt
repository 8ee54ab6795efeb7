-- The views of all passes of a table, in the order in which the passes came.
use Rattle.std.specs.Prelude.{◌≡◌, ℕ, ◌+◌, ◌<◌, List, [], ◌∷◌}
use mathlib.Core.Option.{some}
use lib.ListN.{get_elem?}
use Rattle.search_table.specs.declared.view.PassView.{PassView}

-- the pass is there: it was not joined into another
abbrev pub IsLive : PassView → Type 0
IsLive v = 0 < v.passes

-- view number i, from 0, is v
abbrev pub At : List PassView → ℕ → PassView → Type 0
At views i v = get_elem? views i ≡ some v

-- each view has the property
abbrev pub EachView : (PassView → Type 0) → List PassView → Type 0
EachView P views = (i : ℕ) (v : PassView) → At views i v → P v

-- the sum of a number of each view
abbrev pub total : (PassView → ℕ) → List PassView → ℕ
total f [] = 0
total f (v ∷ views) = f v + total f views
