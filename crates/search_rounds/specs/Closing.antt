-- How what is left at the end is closed.
use Rattle.std.specs.Prelude.{◌≡◌, ℕ, ◌<◌, ◌≤◌, ◌⊎◌, Option, Some, List, Contains}
use Rattle.rcpsp_model.specs.declared.parts.Entry.{Entry}
use Rattle.rcpsp_model.specs.Project.{Project}
use Rattle.rcpsp_model.specs.Schedule.{end_of}
use Rattle.rcpsp_model.specs.Chain.{IsLeast}
use Rattle.rcpsp_model.specs.Tree.{IsLeaf}
use Rattle.log_truth.specs.Fates.{Reason}
use Rattle.log_truth.specs.Holds.{IsLate}
use Rattle.search_log.specs.declared.row.RowFate.{RowFate}
use Rattle.search_log.specs.declared.row.RowFate.TheVariants.{Leaf, Left}
use Rattle.search_log.specs.declared.row.Origin.{Origin}
use Rattle.search_log.specs.declared.row.Fill.{Fill}
use Rattle.search_log.specs.Fates.{row_late, row_saying}
use Rattle.search_log.specs.Stands.{closing}
use Rattle.search_log.specs.Lean.{end_number}
use Rattle.search_rounds.specs.declared.round.WaitingNode.{WaitingNode}
use Rattle.search_rounds.specs.declared.best.Best.{Best}

-- The leaves come first.

-- the front is a leaf, and ends before the best
pub record EndsBefore (P : Project) (F : List Entry) (best : Option ℕ) : Type 0 where
  pub leaf : IsLeaf P F
  pub end : end_of P F < end_number best

-- the new best is the old one, or the end of a leaf that ends before it; no leaf ends before the new one
pub record IsBetter (P : Project) (F : List Entry) (old new : Best) : Type 0 where
  pub is : (new.end ≡ old.end) ⊎ (IsLeaf P F × (new.end ≡ Some (end_of P F)))
  pub falls : end_number new.end ≤ end_number old.end
  pub leaf : IsLeaf P F → end_number new.end ≤ end_of P F

-- e is the end of the best, or that of a leaf that is left
pub data IsEndOrLeft (P : Project) (best : Option ℕ) (left : List WaitingNode) (e : ℕ) : Type 0 where
  of_best : e ≡ end_number best → IsEndOrLeft P best left e
  of_left : (w : WaitingNode) → Contains left w → IsLeaf P w.node.front → e ≡ end_of P w.node.front → IsEndOrLeft P best left e

-- the least of these ends
abbrev pub IsLowered : Project → List WaitingNode → Option ℕ → Option ℕ → Type 0
IsLowered P left best least = IsLeast (IsEndOrLeft P best left) (end_number least)

-- Then each node gets its fate.

-- the number of a node that is left has at most nine digits
abbrev pub IsNarrow : RowFate → Type 0
IsNarrow (Left b) = b ≤ 999999999
IsNarrow _ = Unit {0}

-- it says that the front ends late, for a reason that holds by the best in the end
pub record IsLateFate (P : Project) (best : Option ℕ) (F : List Entry) (fate : RowFate) : Type 0 where
  pub reason : Reason
  pub says : row_saying fate ≡ row_late reason
  pub late : IsLate P (closing best) F reason
  pub narrow : IsNarrow fate

-- the origin of what was closed after the last round, which comes before the one of this number
abbrev pub after_last : ℕ → Origin
after_last number = record { round = number; worker = 0; turn = 0 }

-- the node is closed by the fill; a leaf as one
pub record IsCloseOf (P : Project) (best : Option ℕ) (number : ℕ) (w : WaitingNode) (fill : Fill) : Type 0 where
  pub place : fill.place ≡ w.place
  pub origin : fill.origin ≡ after_last number
  pub late : IsLateFate P best w.node.front fill.fate
  pub leaf : IsLeaf P w.node.front → fill.fate ≡ Leaf
