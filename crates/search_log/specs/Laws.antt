-- What holds of all tables. Each is the contract of a function, and so is proved.
use Rattle.std.specs.Prelude.{◌≡◌, ℕ, ◌+◌, ◌*◌, ◌<◌, ◌≤◌, ◌⊎◌, Option, Some, None, List, [], ◌∷◌, ◌++◌, length, map, Contains}
use Rattle.rcpsp_model.specs.declared.parts.Entry.{Entry}
use Rattle.rcpsp_model.specs.declared.parts.Verdict.{Verdict}
use Rattle.rcpsp_model.specs.Project.{Project, IsWithinLimits}
use Rattle.rcpsp_model.specs.declared.parts.Shut.{Shut as Why}
use Rattle.rcpsp_model.specs.declared.parts.Shut.TheVariants.{NoBudget}
use Rattle.rcpsp_model.specs.Tree.{Choice, entry_at, IsLeaf, LeavesBudgets, IsShut, IsPlacedChild}
use Rattle.rcpsp_model.specs.Bounds.{IsBudgetGap}
use Rattle.rcpsp_model.specs.Claim.{HasDuration}
use Rattle.proof_log.specs.declared.report.LogLine.{LogLine}
use Rattle.proof_log.specs.declared.report.Report.{Report}
use Rattle.log_truth.specs.Log.{by_choice, extended_by, child_branches}
use Rattle.log_truth.specs.Holds.{most_expanded, expanded_in, LogHolds, Holds}
use Rattle.search_log.specs.declared.row.RowFate.{RowFate}
use Rattle.search_log.specs.declared.row.RowFate.TheVariants.{Open, Shut}
use Rattle.search_log.specs.declared.row.Row.{Row}
use Rattle.search_log.specs.declared.row.Origin.{Origin}
use Rattle.search_log.specs.declared.row.Fill.{Fill}
use Rattle.search_log.specs.Weights.{total, Each}
use Rattle.search_log.specs.Fates.{row_cites, row_saying}
use Rattle.search_log.specs.Table.{row_at, says_at, children_of, IsWhole}
use Rattle.search_log.specs.Stands.{IsNoLater, TreeNode, node_at, branch_at, place_front, HasChildren, RowSuits, searching, closing, IsClosed, FillSuits, Waiting, Stands, Grows, filled, fill_rows, fill_origins, CitesRow, RowsCite, expanded_rows, root_row, root_node, shut_root}
use Rattle.search_log.specs.Told.{Tells, origin_at, TellsAll, IsLeastLeft, verdict_of}
use Rattle.search_log.specs.Lean.{seen_rows, IsLean, IsLeanLog}

-- From the first row on.

-- the table of the root, which waits
abbrev pub StartLaw : Type 0
StartLaw =
    (P : Project) (verdict : Verdict) → LeavesBudgets P [] → Stands P verdict (root_row Open ∷ []) (root_node ∷ []) [] (record { place = 0; front = [] } ∷ [])

-- or of a root that has a budget gap
abbrev pub GapLaw : Type 0
GapLaw = (P : Project) (verdict : Verdict) (l : ℕ) → IsBudgetGap P [] l → Stands P verdict (root_row (Shut (NoBudget l)) ∷ []) (shut_root ∷ []) [] []

-- The rows of the children of a front: a placed child waits, and a shut one has its cause.

abbrev pub child_node : List Entry → Choice → Option ℕ → TreeNode
child_node F c start = record { branch = by_choice F c; front = extended_by F c start }

abbrev pub child_row : Choice → Option ℕ → RowFate → Row
child_row c start fate = record { start = start; fate = fate; job = c.job; mode = c.mode }

pub record ChildRows (P : Project) (verdict : Verdict) (ns : List TreeNode) (p : ℕ) (F : List Entry) (c : Choice) : Type 0 where
  pub placed : (t : ℕ) → node_at ns p ≡ child_node F c (Some t) → IsPlacedChild P F (entry_at c.job c.mode t) → RowSuits P verdict ns p (child_row c (Some t) Open)
  pub shut : (why : Why) → node_at ns p ≡ child_node F c None → IsShut P F c.job c.mode why → RowSuits P verdict ns p (child_row c None (Shut why))

abbrev pub ChildRowsLaw : Type 0
ChildRowsLaw = (P : Project) (verdict : Verdict) (ns : List TreeNode) (p : ℕ) (F : List Entry) (c : Choice) → ChildRows P verdict ns p F c

-- nodes that come behind the others, one for each branch below a front, are its children
abbrev pub ChildPlacesLaw : Type 0
ChildPlacesLaw =
    (P : Project) (ns more : List TreeNode) (F : List Entry) → (IsLeaf P F → ⊥) → map (λ n. n.branch) more ≡ child_branches P F →
    HasChildren P (ns ++ more) F (length ns) (length more)

-- Growing.

-- rows and fills come, and the best end may fall
abbrev pub GrowLaw : Type 0
GrowLaw =
    (P : Project) (start best : Option ℕ) (T grown : List Row) (ns more : List TreeNode) (waiting left : List Waiting) (fills : List Fill) → Stands P (searching start) T ns [] waiting →
    IsNoLater start best → Grows P (searching best) T ns waiting grown more fills left → Stands P (searching best) (T ++ grown) (ns ++ more) fills left

-- what came and what came then is one coming, where the best end fell between
abbrev pub GatherLaw : Type 0
GatherLaw =
    (P : Project) (first best : Option ℕ) (T one two : List Row) (ns more most : List TreeNode) (waiting between left : List Waiting) (fills others : List Fill) → length ns ≡ length T →
    IsNoLater first best → Grows P (searching first) T ns waiting one more fills between → Grows P (searching best) (T ++ one) (ns ++ more) between two most others left →
    Grows P (searching best) T ns waiting (one ++ two) (more ++ most) (fills ++ others) left

-- Filling.

-- once all fills are made, the table stands without them
abbrev pub FillsLaw : Type 0
FillsLaw =
    (P : Project) (verdict : Verdict) (T : List Row) (ns : List TreeNode) (fills : List Fill) (waiting : List Waiting) → Stands P verdict T ns fills waiting →
    Stands P verdict (fill_rows T fills) ns [] waiting

-- what is known of the row at a place: the row, and the origin of what it says
pub record PlaceRow : Type 0 where
  pub row : Row
  pub origin : Origin

abbrev pub row_with : Row → Origin → PlaceRow
row_with row origin = record { row = row; origin = origin }

abbrev pub place_row : List Row → List Origin → ℕ → PlaceRow
place_row T O p = row_with (row_at T p) (origin_at O p)

-- after the fills
abbrev pub filled_row : List Row → List Origin → List Fill → ℕ → PlaceRow
filled_row T O fills p = place_row (fill_rows T fills) (fill_origins O fills) p

-- a row that isn't open stays as it is
abbrev pub StaysLaw : Type 0
StaysLaw =
    (P : Project) (verdict : Verdict) (T : List Row) (O : List Origin) (ns : List TreeNode) (fills : List Fill) (waiting : List Waiting) (p : ℕ) → Stands P verdict T ns fills waiting →
    IsClosed (says_at T p) → filled_row T O fills p ≡ place_row T O p

-- the row of a fill says what it says
abbrev pub written : List Row → Fill → PlaceRow
written T fill = row_with (filled (row_at T fill.place) fill.fate) fill.origin

abbrev pub ComesLaw : Type 0
ComesLaw =
    (P : Project) (verdict : Verdict) (T : List Row) (O : List Origin) (ns : List TreeNode) (fills : List Fill) (waiting : List Waiting) (fill : Fill) → Stands P verdict T ns fills waiting →
    length O ≡ length T → Contains fills fill → filled_row T O fills fill.place ≡ written T fill

-- each row is as it was, or that of a fill
pub record IsWritten (T : List Row) (fills : List Fill) (p : ℕ) (is : PlaceRow) : Type 0 where
  pub fill : Fill
  pub among : Contains fills fill
  pub place : fill.place ≡ p
  pub row : is ≡ written T fill

abbrev pub FromLaw : Type 0
FromLaw =
    (P : Project) (verdict : Verdict) (T : List Row) (O : List Origin) (ns : List TreeNode) (fills : List Fill) (waiting : List Waiting) (p : ℕ) → Stands P verdict T ns fills waiting →
    length O ≡ length T → (filled_row T O fills p ≡ place_row T O p) ⊎ IsWritten T fills p (filled_row T O fills p)

-- where rows cite what serves, and so does what is filled, the rows that are filled do
abbrev pub FilledCitesLaw : Type 0
FilledCitesLaw =
    (P : Project) (verdict : Verdict) (T : List Row) (ns : List TreeNode) (fills : List Fill) (waiting : List Waiting) → Stands P verdict T ns fills waiting → RowsCite P T ns →
    ((fill : Fill) (q : ℕ) (F : List Entry) → Contains fills fill → row_saying fill.fate ≡ row_cites q → place_front ns fill.place ≡ Some F → CitesRow P (fill_rows T fills) ns q F) →
    RowsCite P (fill_rows T fills) ns

-- Closing.

-- what is left is closed by one more list of fills: for each front that waits there is one, by its place, and a front may now
-- be left
abbrev pub CloseLaw : Type 0
CloseLaw =
    (P : Project) (start best : Option ℕ) (T : List Row) (ns : List TreeNode) (waiting : List Waiting) (fills : List Fill) → Stands P (searching start) T ns [] waiting →
    IsNoLater start best → ((h : ℕ → ℕ) → total (λ f. h f.place) fills ≡ total (λ w. h w.place) waiting) → Each (λ f. children_of (row_saying f.fate) ≡ []) fills →
    Each (FillSuits P (closing best) ns) fills → Stands P (closing best) T ns fills []

-- Telling.

-- where nothing waits, the table is whole
abbrev pub WholeLaw : Type 0
WholeLaw = (P : Project) (verdict : Verdict) (T : List Row) (ns : List TreeNode) → Stands P verdict T ns [] [] → IsWhole T

-- there is a row for the root, and at most 512 for each row that was expanded or is to be
abbrev pub RoomLaw : Type 0
RoomLaw =
    (P : Project) (verdict : Verdict) (T : List Row) (ns : List TreeNode) (waiting : List Waiting) → IsWithinLimits P → Stands P verdict T ns [] waiting →
    length T ≤ 1 + 512 * expanded_rows T

-- no two places have one front
abbrev pub OneFrontLaw : Type 0
OneFrontLaw =
    (P : Project) (verdict : Verdict) (T : List Row) (ns : List TreeNode) (waiting : List Waiting) (p q : ℕ) (F : List Entry) → Stands P verdict T ns [] waiting → p < length T → q < length T →
    place_front ns p ≡ Some F → place_front ns q ≡ Some F → p ≡ q

-- a place whose branch comes of the front of another is that of its child
abbrev pub ParentLaw : Type 0
ParentLaw =
    (P : Project) (verdict : Verdict) (T : List Row) (ns : List TreeNode) (waiting : List Waiting) (p q : ℕ) (F : List Entry) (c : Choice) → Stands P verdict T ns [] waiting → p < length T →
    q < length T → place_front ns p ≡ Some F → branch_at ns q ≡ by_choice F c → Contains (children_of (says_at T p)) q

-- the lines that are expanded are as many as the rows that were
abbrev pub CountLaw : Type 0
CountLaw = (T : List Row) (lines : List LogLine) → IsWhole T → Tells T lines → expanded_in lines ≡ expanded_rows T

-- Where nothing waits, what is cited serves, and not too many rows were expanded, the log that is told holds
abbrev pub LogLaw : Type 0
LogLaw =
    (P : Project) (best lower : Option ℕ) (T : List Row) (ns : List TreeNode) (lines : List LogLine) → Stands P (closing best) T ns [] [] → RowsCite P T ns →
    IsLeastLeft T lower → expanded_rows T ≤ most_expanded → Tells T lines → LogHolds P (verdict_of best lower) lines

-- and so does the report, with a schedule that ends at the best
abbrev pub ReportLaw : Type 0
ReportLaw =
    (P : Project) (best lower : Option ℕ) (T : List Row) (ns : List TreeNode) (lines : List LogLine) (report : Report) → Stands P (closing best) T ns [] [] → RowsCite P T ns →
    IsLeastLeft T lower → expanded_rows T ≤ most_expanded → Tells T lines → report.verdict ≡ verdict_of best lower → report.log ≡ Some lines → HasDuration P best report.best →
    Holds P report

-- where the rows of a table are lean, so is the log that is told of it
abbrev pub LeanLaw : Type 0
LeanLaw =
    (P : Project) (verdict : Verdict) (T : List Row) (O : List Origin) (ns : List TreeNode) (workers : ℕ) (first : Option ℕ) (starts : List ℕ) (duration : Option ℕ)
    (lines : List LogLine) (origins : List Origin) → Stands P verdict T ns [] [] → TellsAll T O lines origins → IsLean P workers first starts duration (seen_rows T ns O) →
    IsLeanLog P workers first starts duration lines origins
