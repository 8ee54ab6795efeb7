-- Why no front comes of a job in one of its modes, whatever else is placed.
use Rattle.std.specs.Prelude.{◌≡◌, ℕ, ◌+◌, ◌-◌, ◌<◌, List, length, take, sum_by, IfSome, IfNone}
use Rattle.std.specs.List.{slice_index_or}
use Rattle.rcpsp_model.specs.Project.{Project, IsJob, IsMode}
use Rattle.rcpsp_model.specs.Chain.{IsLeast}
use Rattle.rcpsp_model.specs.Modes.{LacksCapacity, IsExecutable, IsInefficientBy, IsEfficient}
use Rattle.project_net.specs.declared.causes.ModeCauses.{ModeCauses}

-- how many modes the first n jobs have
unfoldable pub mode_count : Project → ℕ → ℕ
mode_count P n = sum_by (λ a. length a.modes) (take n P.activities)

-- the place, from 0, of a job's mode among the modes of all jobs, one job's after another's
abbrev pub mode_place : Project → ℕ → ℕ → ℕ
mode_place P j m = mode_count P (j - 1) + (m - 1)

-- the lowest resource of which the mode asks too much, and the lowest mode that makes it inefficient, where there is one
pub record AreCauses (P : Project) (j m : ℕ) (causes : ModeCauses) : Type 0 where
  pub lacking : IfSome causes.lacking (IsLeast (LacksCapacity P j m))
  pub executable : IfNone causes.lacking (IsExecutable P j m)
  pub inefficient : IfSome causes.inefficient (IsLeast (IsInefficientBy P j m))
  pub efficient : IfNone causes.inefficient (IsEfficient P j m)

-- the causes of the modes in the first so many places
pub record AreFirstCauses (P : Project) (done : ℕ) (causes : List ModeCauses) : Type 0 where
  pub size : length causes ≡ done
  pub each : (j m : ℕ) (d : ModeCauses) → IsJob P j → IsMode P j m → mode_place P j m < done → AreCauses P j m (slice_index_or causes (mode_place P j m) d)

-- the causes of all modes, each in its place
pub record AreAllCauses (P : Project) (causes : List ModeCauses) : Type 0 where
  pub within : (j m : ℕ) → IsJob P j → IsMode P j m → mode_place P j m < length causes
  pub each : (j m : ℕ) (d : ModeCauses) → IsJob P j → IsMode P j m → AreCauses P j m (slice_index_or causes (mode_place P j m) d)
