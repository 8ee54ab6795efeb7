-- A table that is filled in part: the node of the tree for which each place stands, what waits, and what the rows say.
use Rattle.std.specs.Prelude.{◌≡◌, ℕ, ◌+◌, ◌<◌, ◌≤◌, Option, Some, None, List, [], ◌∷◌, ◌++◌, length, map, slice_index_or, slice_set}
use Rattle.rcpsp_model.specs.declared.parts.Entry.{Entry}
use Rattle.rcpsp_model.specs.declared.parts.Verdict.{Verdict}
use Rattle.rcpsp_model.specs.declared.parts.Verdict.TheVariants.{Optimal, Infeasible, Limit}
use Rattle.rcpsp_model.specs.Project.{Project, numbers_from}
use Rattle.rcpsp_model.specs.Tree.{IsLeaf}
use Rattle.rcpsp_model.specs.Dominance.{Dominates}
use Rattle.proof_log.specs.declared.report.LogLine.{LogLine}
use Rattle.log_truth.specs.Log.{Branch, at_root, front_at, child_branches, IsLineAt}
use Rattle.log_truth.specs.Holds.{IsLate}
use Rattle.search_log.specs.declared.row.RowFate.{RowFate}
use Rattle.search_log.specs.declared.row.Row.{Row}
use Rattle.search_log.specs.declared.row.Origin.{Origin}
use Rattle.search_log.specs.declared.row.Fill.{Fill}
use Rattle.search_log.specs.Weights.{total, over, places_weight, Each}
use Rattle.search_log.specs.Fates.{RowSaying, row_open, row_expanded, row_late, row_cites, row_shut, row_saying, fate_of}
use Rattle.search_log.specs.Table.{row_at, says_row, says_at, children_of, children_weight}

-- the line of a row, where the rows have these numbers
abbrev pub line_of : List ℕ → Row → LogLine
line_of numbers r = record { job = r.job; mode = r.mode; start = r.start; fate = fate_of numbers r.fate }

-- Nodes of the tree.

-- a branch of the tree and the front to which it leads, if it does
pub record TreeNode : Type 0 where
  pub branch : Branch
  pub front : Option (List Entry)

abbrev pub no_node : TreeNode
no_node = record { branch = at_root; front = None }

-- the node for which a place stands
abbrev pub node_at : List TreeNode → ℕ → TreeNode
node_at ns p = slice_index_or ns p no_node

abbrev pub branch_at : List TreeNode → ℕ → Branch
branch_at ns p = (node_at ns p).branch

abbrev pub place_front : List TreeNode → ℕ → Option (List Entry)
place_front ns p = (node_at ns p).front

-- the children of the front F have the places from the first on, so many
pub record HasChildren (P : Project) (ns : List TreeNode) (F : List Entry) (first count : ℕ) : Type 0 where
  pub inner : IsLeaf P F → ⊥
  pub within : first + count ≤ length ns
  pub children : map (branch_at ns) (numbers_from first count) ≡ child_branches P F

-- What a row says.

-- the verdict by which the rows are judged while the search goes on: with the least end so far, if there is one, and no
-- node left
abbrev pub searching : Option ℕ → Verdict
searching (Some d) = Optimal d
searching None = Infeasible

-- and once no more is expanded: nodes may be left
abbrev pub closing : Option ℕ → Verdict
closing best = Limit best 0

-- the second end is there where the first is, and no later
abbrev pub IsNoLater : Option ℕ → Option ℕ → Type 0
IsNoLater None e = Unit {0}
IsNoLater (Some d) None = ⊥
IsNoLater (Some d) (Some e) = e ≤ d

-- what is said of a place that has this front, if it has one, is right, apart from what is cited
abbrev pub Suits : Project → Verdict → List TreeNode → Option (List Entry) → RowSaying → Type 0
Suits P verdict ns (Some F) row_open = Unit {0}
Suits P verdict ns (Some F) (row_expanded first count) = HasChildren P ns F first count
Suits P verdict ns (Some F) (row_late reason) = IsLate P verdict F reason
Suits P verdict ns (Some F) (row_cites q) = Unit {0}
Suits P verdict ns (Some F) (row_shut why) = ⊥
Suits P verdict ns None (row_shut why) = Unit {0}
Suits P verdict ns None _ = ⊥

-- the line of the row is that of its branch, whatever its fate will be, its front is that of its place, and what it says is
-- right
pub record RowSuits (P : Project) (verdict : Verdict) (ns : List TreeNode) (p : ℕ) (r : Row) : Type 0 where
  pub line : IsLineAt P (branch_at ns p) (line_of [] r)
  pub front : front_at (branch_at ns p) (line_of [] r) ≡ place_front ns p
  pub says : Suits P verdict ns (place_front ns p) (says_row r)

-- the row is open no more
abbrev pub IsClosed : RowSaying → Type 0
IsClosed row_open = ⊥
IsClosed _ = Unit {0}

-- what became of the node at a place is right
pub record FillSuits (P : Project) (verdict : Verdict) (ns : List TreeNode) (fill : Fill) : Type 0 where
  pub within : fill.place < length ns
  pub closed : IsClosed (row_saying fill.fate)
  pub says : Suits P verdict ns (place_front ns fill.place) (row_saying fill.fate)

-- a front that waits to be visited, with its place
pub record Waiting : Type 0 where
  pub place : ℕ
  pub front : List Entry

abbrev pub IsAtPlace : List TreeNode → Waiting → Type 0
IsAtPlace ns w = place_front ns w.place ≡ Some w.front

-- The account.

-- the number, where nothing is said yet
abbrev pub if_open : RowSaying → ℕ → ℕ
if_open row_open n = n
if_open _ n = 0

-- what the places of the open rows weigh
abbrev pub open_weight : (ℕ → ℕ) → List Row → ℕ
open_weight h T = over (λ k r. if_open (says_row r) (h k)) 0 T

-- The table stands for nodes of the tree, while fills are still to be made and fronts wait. However places are weighed: all
-- places weigh what the root and the children of all rows and fills weigh, and the open rows weigh what the fills and the
-- waiting fronts weigh
pub record Stands (P : Project) (verdict : Verdict) (T : List Row) (ns : List TreeNode) (fills : List Fill) (waiting : List Waiting) : Type 0 where
  pub some : 0 < length T
  pub size : length ns ≡ length T
  pub root : branch_at ns 0 ≡ at_root
  pub account : (h : ℕ → ℕ) → places_weight h T ≡ h 0 + children_weight h T + total (λ f. total h (children_of (row_saying f.fate))) fills
  pub waits : (h : ℕ → ℕ) → open_weight h T ≡ total (λ f. h f.place) fills + total (λ w. h w.place) waiting
  pub rows : (p : ℕ) → p < length T → RowSuits P verdict ns p (row_at T p)
  pub each_fill : Each (FillSuits P verdict ns) fills
  pub each_waiting : Each (IsAtPlace ns) waiting

-- Growing.

-- A table with more rows, which stand for more nodes, before fills are made and where others wait than before. However
-- places are weighed: the new rows weigh what the children of new rows and of fills weigh, and the fills and what waits now
-- weigh what waited before and the open new rows weigh
pub record Grows (P : Project) (verdict : Verdict) (T : List Row) (ns : List TreeNode) (waiting : List Waiting) (grown : List Row) (more : List TreeNode) (fills : List Fill) (left : List Waiting) : Type 0 where
  pub size : length more ≡ length grown
  pub account : (h : ℕ → ℕ) → over (λ k r. h k) (length T) grown ≡ over (λ k r. total h (children_of (says_row r))) (length T) grown + total (λ f. total h (children_of (row_saying f.fate))) fills
  pub waits : (h : ℕ → ℕ) → total (λ f. h f.place) fills + total (λ w. h w.place) left ≡ total (λ w. h w.place) waiting + over (λ k r. if_open (says_row r) (h k)) (length T) grown
  pub rows : (i : ℕ) → i < length grown → RowSuits P verdict (ns ++ more) (length T + i) (row_at grown i)
  pub each_fill : Each (FillSuits P verdict (ns ++ more)) fills
  pub each_left : Each (IsAtPlace (ns ++ more)) left

-- Filling.

abbrev pub filled : Row → RowFate → Row
filled r fate = record r { fate = fate }

-- the rows after a fill, and after some
abbrev pub fill_row : List Row → Fill → List Row
fill_row T fill = slice_set T fill.place (filled (row_at T fill.place) fill.fate)

abbrev pub fill_rows : List Row → List Fill → List Row
fill_rows T [] = T
fill_rows T (fill ∷ fills) = fill_rows (fill_row T fill) fills

-- their origins after some fills
abbrev pub fill_origins : List Origin → List Fill → List Origin
fill_origins O [] = O
fill_origins O (fill ∷ fills) = fill_origins (slice_set O fill.place fill.origin) fills

-- Citations.

pub record IsExpandedAt (T : List Row) (q : ℕ) : Type 0 where
  pub first : ℕ
  pub count : ℕ
  pub is : says_at T q ≡ row_expanded first count

-- the row at the place q was expanded, and its front dominates F
pub record CitesRow (P : Project) (T : List Row) (ns : List TreeNode) (q : ℕ) (F : List Entry) : Type 0 where
  pub expanded : IsExpandedAt T q
  pub front : List Entry
  pub is_its : place_front ns q ≡ Some front
  pub dominates : Dominates P front F

-- each row that cites another is dominated by it
abbrev pub RowsCite : Project → List Row → List TreeNode → Type 0
RowsCite P T ns = (p q : ℕ) (F : List Entry) → says_at T p ≡ row_cites q → place_front ns p ≡ Some F → CitesRow P T ns q F

-- 1 where the row was expanded, and how many were
abbrev pub one_expanded : RowSaying → ℕ
one_expanded (row_expanded first count) = 1
one_expanded _ = 0

abbrev pub expanded_rows : List Row → ℕ
expanded_rows T = total (λ r. one_expanded (says_row r)) T

-- The first row.

abbrev pub root_row : RowFate → Row
root_row fate = record { start = None; fate = fate; job = 0; mode = 0 }

abbrev pub root_node : TreeNode
root_node = record { branch = at_root; front = Some [] }

abbrev pub shut_root : TreeNode
shut_root = record { branch = at_root; front = None }
