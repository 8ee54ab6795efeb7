-- What leads on from the active jobs.
use Rattle.std.specs.Prelude.{◌≡◌, ℕ, ◌+◌, ◌⊎◌, Contains, List}
use Rattle.rcpsp_model.specs.Project.{Project}
use Rattle.rcpsp_model.specs.Chain.{IsTail, least_duration}
use Rattle.precedence_tree.specs.declared.active.Active.{Active}

-- n is when the longest chain after the job can be done at the earliest: its finish and the tail, but for its own least
-- duration
abbrev pub IsAfter : Project → Active → ℕ → Type 0
IsAfter P a n = (t : ℕ) → IsTail P a.entry.job t → n + least_duration P a.entry.job ≡ a.finish + t

-- n is the floor, or that of one of the jobs
abbrev pub IsFloorOrAfter : Project → List Active → ℕ → ℕ → Type 0
IsFloorOrAfter P xs floor n = (n ≡ floor) ⊎ ((a : Active) × Contains xs a × IsAfter P a n)
