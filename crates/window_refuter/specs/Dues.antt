-- The jobs in the order in which they have to be over, and intervals that hold the work of the jobs that have to run within.
use Rattle.std.specs.Prelude.{◌≡◌, ℕ, ◌-◌, ◌≤◌, List, map}
use Rattle.std.specs.List.Sorted.{IsPermutation, IsNonDecreasingBy}
use Rattle.rcpsp_model.specs.Project.{Project, jobs, IsRenewable}
use Rattle.rcpsp_model.specs.Bounds.{supply}
use Rattle.window_refuter.specs.declared.window.Window.{Window}
use Rattle.window_refuter.specs.declared.interval.Due.{Due}
use Rattle.window_refuter.specs.declared.step.BoundStep.{BoundStep}
use Rattle.window_refuter.specs.declared.step.BoundStep.TheVariants.{Head, Tail, Disjoint, Work, Empty}
use Rattle.window_refuter.specs.Windows.{lf_of, work_within}
use Rattle.window_refuter.specs.Steps.{IsOverfull}

-- a job and its latest finish
abbrev pub due_of : List Window → ℕ → Due
due_of ws j = record { job = j; latest_finish = lf_of ws j }

-- it is the latest finish of some job
abbrev pub IsFinish : List Window → ℕ → Type 0
IsFinish ws t = (j : ℕ) × (t ≡ lf_of ws j)

-- all jobs, by rising latest finish
pub record AreByFinish (P : Project) (ws : List Window) (dues : List Due) : Type 0 where
  pub jobs : IsPermutation (map (due_of ws) (jobs P)) dues
  pub sorted : IsNonDecreasingBy (λ d. d.latest_finish) dues

-- in the periods from a up to b there is no less of k than the jobs that have to run within them take
abbrev pub HoldsWithin : Project → List Window → ℕ → ℕ → ℕ → Type 0
HoldsWithin P ws k a b = work_within P ws k a b ≤ supply P k a (b - a)

-- the step names periods that don't hold their jobs' work
abbrev pub IsFullStep : Project → ℕ → List Window → BoundStep → Type 0
IsFullStep P T ws (Work k a b) = IsOverfull P T ws k a b
IsFullStep P T ws (Head i j) = ⊥
IsFullStep P T ws (Tail i j) = ⊥
IsFullStep P T ws (Disjoint i j k) = ⊥
IsFullStep P T ws (Empty j) = ⊥

-- each resource holds the work within all periods
abbrev pub NoneIsFull : Project → List Window → Type 0
NoneIsFull P ws = (k a b : ℕ) → IsRenewable P k → a ≤ b → HoldsWithin P ws k a b
