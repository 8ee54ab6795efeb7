-- Worked tables, whose rows came in an order that isn't the log's. What is said of them here is proved.
use Rattle.std.specs.Prelude.{ℕ, Some, List, [], ◌∷◌}
use Rattle.rcpsp_model.specs.Tree.{Choice, entry_at}
use Rattle.rcpsp_model.specs.Examples.{two_in_turn}
use Rattle.log_truth.specs.Examples.{in_turn_log, twins_later}
use Rattle.search_log.specs.declared.row.RowFate.{RowFate}
use Rattle.search_log.specs.declared.row.RowFate.TheVariants.{Expanded, TailBound, Cited}
use Rattle.search_log.specs.declared.row.Row.{Row}
use Rattle.search_log.specs.Table.{IsWhole}
use Rattle.search_log.specs.Stands.{TreeNode, closing, Stands, root_row, root_node}
use Rattle.search_log.specs.Told.{Tells}
use Rattle.search_log.specs.Laws.{child_node}

abbrev pub row : ℕ → ℕ → ℕ → RowFate → Row
row j m t fate = record { start = Some t; fate = fate; job = j; mode = m }

-- the job in its mode 1
abbrev pub choice : ℕ → Choice
choice j = record { job = j; mode = 1 }

-- two jobs that can't run side by side: the front of job 3 was visited before that of job 2
abbrev pub in_turn_rows : List Row
in_turn_rows =
    root_row (Expanded 1 1)
    ∷ row 1 1 0 (Expanded 2 2)
    ∷ row 2 1 0 (Expanded 1 5)
    ∷ row 3 1 0 (Expanded 1 4)
    ∷ row 2 1 2 TailBound
    ∷ row 3 1 3 TailBound ∷ []

-- the nodes of the tree for which its places stand
abbrev pub in_turn_nodes : List TreeNode
in_turn_nodes =
    root_node
    ∷ child_node [] (choice 1) (Some 0)
    ∷ child_node (entry_at 1 1 0 ∷ []) (choice 2) (Some 0)
    ∷ child_node (entry_at 1 1 0 ∷ []) (choice 3) (Some 0)
    ∷ child_node (entry_at 1 1 0 ∷ entry_at 3 1 0 ∷ []) (choice 2) (Some 2)
    ∷ child_node (entry_at 1 1 0 ∷ entry_at 2 1 0 ∷ []) (choice 3) (Some 3) ∷ []

-- twins, with the same order of visits: the row at place 5 cites the one at place 4, and line 4 of the log cites line 6
abbrev pub twins_rows : List Row
twins_rows =
    root_row (Expanded 1 1)
    ∷ row 1 1 0 (Expanded 2 2)
    ∷ row 2 1 0 (Expanded 1 5)
    ∷ row 3 1 0 (Expanded 1 4)
    ∷ row 2 1 0 (Expanded 2 6)
    ∷ row 3 1 0 (Cited 4)
    ∷ row 4 1 1 (Expanded 1 8)
    ∷ row 5 1 1 (Expanded 1 9)
    ∷ row 5 1 4 TailBound
    ∷ row 4 1 3 TailBound ∷ []

pub record WorkedTables : Type 0 where
  pub stands : Stands two_in_turn (closing (Some 5)) in_turn_rows in_turn_nodes [] []
  pub whole_in_turn : IsWhole in_turn_rows
  pub in_turn : Tells in_turn_rows in_turn_log
  pub whole_twins : IsWhole twins_rows
  pub twins : Tells twins_rows twins_later
