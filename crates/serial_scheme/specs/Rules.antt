-- The mode rules of the serial scheme.
use Rattle.std.specs.Prelude.{◌≡◌, ℕ, ◌<◌, ◌≤◌, ◌⊎◌, Option, Some, None}
use Rattle.rcpsp_model.specs.Project.{Project, duration, IsJob, IsMode}
use Rattle.rcpsp_model.specs.Modes.{IsExecutable, total_need}
use Rattle.rcpsp_model.specs.Plan.{IsShortestMode, IsCheapestMode}
use Rattle.serial_scheme.specs.declared.mode_rule.ModeRule.{ModeRule}
use Rattle.serial_scheme.specs.declared.mode_rule.ModeRule.TheVariants.{Shortest, Cheapest}

-- the job has the mode by the rule
abbrev pub HasMode : ModeRule → Project → ℕ → ℕ → Type 0
HasMode Shortest P j m = IsShortestMode P j m
HasMode Cheapest P j m = IsCheapestMode P j m

-- what the rule compares: the periods, or the total need
abbrev pub weight_of : ModeRule → Project → ℕ → ℕ → ℕ
weight_of Shortest P j m = duration P j m
weight_of Cheapest P j m = total_need P j m

-- of a first number or none and a second one, the one that weighs less, the first on a tie
abbrev pub IsLighter : (ℕ → ℕ) → Option ℕ → ℕ → Option ℕ → Type 0
IsLighter weight None m r = r ≡ Some m
IsLighter weight (Some b) m r = ((weight b ≤ weight m) × (r ≡ Some b)) ⊎ ((weight m < weight b) × (r ≡ Some m))

-- none of the job's modes is executable
abbrev pub HasNoMode : Project → ℕ → Type 0
HasNoMode P j = (m : ℕ) → IsMode P j m → IsExecutable P j m → ⊥

-- some job has no executable mode
abbrev pub SomeHasNoMode : Project → Type 0
SomeHasNoMode P = (j : ℕ) × IsJob P j × HasNoMode P j
