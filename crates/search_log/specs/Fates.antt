-- What the fate of a row says, and of which fate of a line it becomes.
use Rattle.std.specs.Prelude.{ℕ, List, slice_index}
use Rattle.sched_base.specs.declared.fate.Fate.{Fate}
use Rattle.sched_base.specs.declared.fate.Fate.TheVariants as line
use Rattle.rcpsp_model.specs.declared.parts.Shut.{Shut as Why}
use Rattle.rcpsp_model.specs.declared.parts.Shut.TheVariants.{NoCapacity, NoBudget, Inefficient}
use Rattle.log_truth.specs.Fates.{Reason, late_leaf, late_tail, late_work, late_left}
use Rattle.search_log.specs.declared.row.RowFate.{RowFate}
use Rattle.search_log.specs.declared.row.RowFate.TheVariants.{Open, Expanded, Leaf, TailBound, WorkBound, Cited, Left, Shut}

pub data RowSaying : Type 0 where
  -- nothing: the node waits
  row_open : RowSaying
  -- its children have the places from the first number on, so many
  row_expanded : ℕ → ℕ → RowSaying
  -- its front ends late
  row_late : Reason → RowSaying
  -- the front at this place dominates its own
  row_cites : ℕ → RowSaying
  -- it has no front
  row_shut : Why → RowSaying

abbrev pub row_saying : RowFate → RowSaying
row_saying Open = row_open
row_saying (Expanded count first) = row_expanded first count
row_saying Leaf = row_late late_leaf
row_saying TailBound = row_late late_tail
row_saying (WorkBound k) = row_late (late_work k)
row_saying (Cited q) = row_cites q
row_saying (Left b) = row_late (late_left b)
row_saying (Shut why) = row_shut why

-- the fate of the line of a child that has no front
abbrev pub shut_fate : Why → Fate
shut_fate (NoCapacity k) = line.Capacity k
shut_fate (NoBudget l) = line.Budget l
shut_fate (Inefficient m) = line.Worse m

-- the fate of a row's line, where the rows have these numbers; that of an open row says that it is left
abbrev pub fate_of : List ℕ → RowFate → Fate
fate_of numbers Open = line.Left 0
fate_of numbers (Expanded count first) = line.Expanded
fate_of numbers Leaf = line.Leaf
fate_of numbers TailBound = line.TailBound
fate_of numbers (WorkBound k) = line.WorkBound k
fate_of numbers (Cited q) = line.Cutset (slice_index numbers q)
fate_of numbers (Left b) = line.Left b
fate_of numbers (Shut why) = shut_fate why
