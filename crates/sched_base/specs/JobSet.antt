-- Sets of jobs.
use Rattle.std.specs.Prelude.{◌≡◌, ℕ, ◌-◌, ◌<◌, ◌≤◌, ◌^◌, ◌==◌, Bool, true, not, bit_and}
use Rattle.sched_base.specs.declared.job_set.JobSet.{JobSet}

-- whether the job, from 1 on, is in the set: job j is bit j - 1
abbrev pub member : JobSet → ℕ → Bool
member set job = not (bit_and set.0 (2 ^ (job - 1)) == 0)

-- the lowest job of the set above a number
pub record IsNextMember (set : JobSet) (above job : ℕ) : Type 0 where
  pub later : above < job
  pub own : member set job ≡ true
  pub lowest : (i : ℕ) → above < i → member set i ≡ true → job ≤ i
