-- The rows of the children of an expanded front, and those of them that wait.
use Rattle.std.specs.Prelude.{ℕ, ◌+◌, ◌-◌, Some, None, List, [], ◌∷◌, ◌++◌, length, slice_index_or}
use Rattle.rcpsp_model.specs.declared.parts.Child.{Child}
use Rattle.rcpsp_model.specs.declared.parts.Child.TheVariants.{Placed, Shut}
use Rattle.rcpsp_model.specs.declared.parts.Entry.{Entry}
use Rattle.rcpsp_model.specs.Tree.{entry_at}
use Rattle.precedence_tree.specs.Node.{NodeState}
use Rattle.search_log.specs.declared.row.RowFate.TheVariants as fate
use Rattle.search_log.specs.declared.row.Row.{Row}
use Rattle.search_log.specs.declared.row.Origin.{Origin}
use Rattle.search_rounds.specs.declared.round.NewRow.{NewRow}
use Rattle.search_rounds.specs.declared.round.WaitingNode.{WaitingNode}

-- the entry that was placed last; zeros where there is none
abbrev pub last_placed : List Entry → Entry
last_placed F = slice_index_or F (length F - 1) (entry_at 0 0 0)

abbrev pub placed_row : Entry → Row
placed_row e = record { start = Some e.start; fate = fate.Open; job = e.job; mode = e.mode }

-- the row of a child: a placed one waits, and a shut one has its cause
abbrev pub row_of_child : Child NodeState → Row
row_of_child (Placed node) = placed_row (last_placed node.front)
row_of_child (Shut j m why) = record { start = None; fate = fate.Shut why; job = j; mode = m }

abbrev pub new_row : Origin → Child NodeState → NewRow
new_row origin child = record { row = row_of_child child; origin = origin }

-- the child at a place, where it is placed
abbrev pub waiting_child : ℕ → Child NodeState → List WaitingNode
waiting_child p (Placed node) = record { place = p; node = node } ∷ []
waiting_child p (Shut j m why) = []

-- the placed ones of children whose rows have the places from the first on
abbrev pub placed_from : ℕ → List (Child NodeState) → List WaitingNode
placed_from p [] = []
placed_from p (child ∷ children) = waiting_child p child ++ placed_from (p + 1) children
