-- The laws of passes, which hold of all projects and feasible schedules. Each is the contract of a function, and so is proved.
use Rattle.std.specs.Prelude.{◌≡◌, ℕ, ◌↔◌, List}
use Rattle.rcpsp_model.specs.declared.parts.Placing.{Placing}
use Rattle.rcpsp_model.specs.Project.{Project, IsJob, IsAcyclic}
use Rattle.rcpsp_model.specs.Schedule.{IsFeasible, KeepsCapacities, entries}
use Rattle.rcpsp_model.specs.Tree.{Fits}
use Rattle.justify_plans.specs.declared.direction.Direction.{Direction}
use Rattle.justify_plans.specs.Placings.{mode_in, others, moved}
use Rattle.justify_plans.specs.Passes.{IsPass}
use Rattle.justify_plans.specs.Improved.{IsImproved}

-- a job fits beside the others exactly where all jobs together keep every capacity once it is moved there
abbrev pub FitsLaw : Type 0
FitsLaw = (P : Project) (s : List Placing) (j t : ℕ) → IsFeasible P s → IsJob P j → Fits P (others s j) j (mode_in s j) t ↔ KeepsCapacities P (entries (moved s j t))

-- a schedule that stands in the relation, and no other one
pub record OneResult (R : List Placing → Type 0) : Type 0 where
  pub schedule : List Placing
  pub is : R schedule
  pub only : (r : List Placing) → R r → r ≡ schedule

-- a pass makes exactly one schedule of a feasible one
abbrev pub PassLaw : Type 0
PassLaw = (way : Direction) (P : Project) (s : List Placing) → IsAcyclic P → IsFeasible P s → OneResult (IsPass way P s)

-- a feasible schedule is improved to exactly one
abbrev pub ImprovedLaw : Type 0
ImprovedLaw = (P : Project) (s : List Placing) → IsAcyclic P → IsFeasible P s → OneResult (IsImproved P s)
