-- An index of records: the lines of those with the same jobs, and the first record that dominates.
use Rattle.std.specs.Prelude.{ℕ, ◌<◌, ◌≤◌, ◌↔◌, List, [], length, map, slice_index_or, AllPairs, Contains}
use Rattle.sched_base.specs.declared.job_set.JobSet.{JobSet}
use Rattle.rcpsp_model.specs.declared.parts.Entry.{Entry}
use Rattle.rcpsp_model.specs.Project.{Project}
use Rattle.rcpsp_model.specs.Dominance.{Dominates}
use Rattle.precedence_tree.specs.declared.base.Base.{Base}
use Rattle.precedence_tree.specs.Frontier.{HasJobs}
use Rattle.cutset_store.specs.declared.row.Row.{Row}
use Rattle.cutset_store.specs.declared.table.Table.{Table}
use Rattle.cutset_store.specs.Line.{LineState, AreInLine}
use Rattle.cutset_store.specs.Table.{IsTable, line_at}

-- the fronts of the records
abbrev pub fronts_of : List Base → List (List Entry)
fronts_of bases = map (λ b. b.front) bases

-- in the place i, from 0, stands a front that dominates B
pub record DominatesAt (P : Project) (fronts : List (List Entry)) (B : List Entry) (i : ℕ) : Type 0 where
  pub within : i < length fronts
  pub dominates : Dominates P (slice_index_or fronts i []) B

-- the places, in ascending order, of the fronts that have exactly the jobs of the set
pub record ArePlaces (fronts : List (List Entry)) (set : JobSet) (places : List ℕ) : Type 0 where
  pub ascending : AllPairs (λ i j. i < j) places
  pub all : (i : ℕ) → Contains places i ↔ ((i < length fronts) × HasJobs (slice_index_or fronts i []) set)

abbrev pub places_in : List Row → List ℕ
places_in rows = map (λ r. r.place) rows

-- the line has the rows of the records with exactly the jobs of the set
pub record IsLineOf (bases : List Base) (width : ℕ) (set : JobSet) (line : LineState) : Type 0 where
  pub places : ArePlaces (fronts_of bases) set (places_in line.rows)
  pub each : AreInLine bases width line.rows line.needs line.active

-- the table has the line of each set; beside each row stand at most 16 needs
pub record IsIndexed (bases : List Base) (width : ℕ) (t : Table) : Type 0 where
  pub few : length bases ≤ 4294967295
  pub narrow : width ≤ 16
  pub table : IsTable t
  pub lines : (set : JobSet) → IsLineOf bases width set (line_at t set)
