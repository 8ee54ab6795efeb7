-- The steps of a project that may narrow a window, found once.
use Rattle.std.specs.Prelude.{ℕ, ◌+◌, ◌-◌, List, All, Contains}
use Rattle.rcpsp_model.specs.Project.{Project, job_count, Before}
use Rattle.window_refuter.specs.declared.step.BoundStep.{BoundStep}
use Rattle.window_refuter.specs.declared.step.BoundStep.TheVariants.{Head, Tail, Disjoint}
use Rattle.window_refuter.specs.Steps.{IsConflict}
use Rattle.window_refuter.specs.Narrowing.{IsGrounded}

-- of two jobs in conflict there is a step for one resource
abbrev pub HasConflict : List BoundStep → ℕ → ℕ → Type 0
HasConflict steps i j = (l : ℕ) × Contains steps (Disjoint i j l)

-- a step of either kind for each pair, one for each two jobs in conflict, and no step that rests on neither
pub record AreNarrowingSteps (P : Project) (steps : List BoundStep) : Type 0 where
  pub grounded : All (IsGrounded P) steps
  pub heads : (i j : ℕ) → Before P i j → Contains steps (Head i j)
  pub tails : (i j : ℕ) → Before P i j → Contains steps (Tail i j)
  pub conflicts : (i j k : ℕ) → IsConflict P i j k → HasConflict steps i j

-- more steps: those of before, and no step that rests on neither
pub record Extends (P : Project) (old new : List BoundStep) : Type 0 where
  pub kept : (step : BoundStep) → Contains old step → Contains new step
  pub grounded : All (IsGrounded P) old → All (IsGrounded P) new

-- the steps have those that begin with a job and name another, and the tail step of that other job and the job that stands
-- at the same place from the end
pub record HasStepsOf (P : Project) (steps : List BoundStep) (i j : ℕ) : Type 0 where
  pub head : Before P i j → Contains steps (Head i j)
  pub tail : Before P j (job_count P + 1 - i) → Contains steps (Tail j (job_count P + 1 - i))
  pub conflict : (k : ℕ) → IsConflict P i j k → HasConflict steps i j
