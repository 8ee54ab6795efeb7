-- The jobs that can be placed next.
use Rattle.std.specs.Prelude.{◌≡◌, ℕ, ◌≤◌, ◌↔◌, ◌==◌, true, false, List}
use Rattle.sched_base.specs.declared.job_set.JobSet.{JobSet}
use Rattle.sched_base.specs.JobSet.{member}
use Rattle.rcpsp_model.specs.declared.parts.Entry.{Entry}
use Rattle.rcpsp_model.specs.Project.{Project, Before}
use Rattle.rcpsp_model.specs.Tree.{has_job, IsEligible}
use Rattle.project_net.specs.Order.{IsFree}

-- the set has exactly the jobs of the entries
abbrev pub HasJobs : List Entry → JobSet → Type 0
HasJobs F placed = (i : ℕ) → 1 ≤ i → member placed i ≡ has_job F i

-- a job that isn't in the set, and whose predecessors are
abbrev pub IsOpenBeside : Project → JobSet → ℕ → Type 0
IsOpenBeside P placed j = IsFree P (member placed) j

-- a job of the set other than the one that is placed now
abbrev pub Stays : JobSet → ℕ → ℕ → Type 0
Stays set job j = (member set j ≡ true) × ((j == job) ≡ false)

-- a successor of that one which the placed jobs leave open
abbrev pub Opens : Project → JobSet → ℕ → ℕ → Type 0
Opens P placed job j = Before P job j × IsOpenBeside P placed j

-- the set has exactly the eligible jobs
abbrev pub AreEligible : Project → List Entry → JobSet → Type 0
AreEligible P F set = (j : ℕ) → 1 ≤ j → (member set j ≡ true) ↔ IsEligible P F j
