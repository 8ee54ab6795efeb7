-- The lines of an index, found by sets of jobs.
use Rattle.std.specs.Prelude.{◌≡◌, ℕ, ◌<◌, Option, Some, None, List, length, slice_index_or, nat_eq}
use Rattle.std.specs.HashMap.{HashMap, get}
use Rattle.sched_base.specs.declared.job_set.JobSet.{JobSet}
use Rattle.precedence_tree.specs.declared.active.Active.{Active}
use Rattle.cutset_store.specs.declared.row.Row.{Row}
use Rattle.cutset_store.specs.declared.table.Table.{Table}
use Rattle.cutset_store.specs.Line.{LineState, empty_line, Appends}

-- in the place i, from 0, stands the line of the set that the number stands for
pub record HasLineAt (lines : List LineState) (bits i : ℕ) : Type 0 where
  pub within : i < length lines
  pub jobs : (d : LineState) → (slice_index_or lines i d).jobs.0 ≡ bits

-- a map finds the lines by their sets, and finds each of them
pub record AreFound {S : Type 0} (places : HashMap ℕ ℕ S) (lines : List LineState) : Type 0 where
  pub own : (bits i : ℕ) → get nat_eq places bits ≡ Some i → HasLineAt lines bits i
  pub all : (bits i : ℕ) → HasLineAt lines bits i → get nat_eq places bits ≡ Some i

abbrev pub IsTable : Table → Type 0
IsTable t = AreFound t.places t.lines.items

-- the line of a set, without a row where the map has none
abbrev pub line_in : List LineState → Option ℕ → JobSet → LineState
line_in lines None set = empty_line set
line_in lines (Some i) set = slice_index_or lines i (empty_line set)

abbrev pub line_at : Table → JobSet → LineState
line_at t set = line_in t.lines.items (get nat_eq t.places set.0) set

-- the line of the set has one row more, and the others are what they were
pub record Enters (old new : Table) (set : JobSet) (row : Row) (used : List ℕ) (xs : List Active) : Type 0 where
  pub here : Appends (line_at old set) (line_at new set) row used xs
  pub others : (s : JobSet) → (s ≡ set → ⊥) → line_at new s ≡ line_at old s
