-- What contracts see of a profile.
use Rattle.std.specs.Prelude.{◌≡◌, ℕ, ◌-◌, ◌*◌, ◌⊎◌, List, length, All, Contains}
use Rattle.rcpsp_model.specs.declared.parts.Entry.{Entry}
use Rattle.rcpsp_model.specs.Project.{Project, IsRenewable, renewables}
use Rattle.rcpsp_model.specs.Schedule.{finish, usage, AreOf, KeepsCapacities}
use Rattle.profiles.specs.Steps.{IsRising, IsStepped}

-- the entries in the order of placing, and how many more can be placed without taking memory; beside them the times and
-- the rows of usage in which they are kept, and how many numbers a row has
pub record Placed : Type 0 where
  pub entries : List Entry
  pub spare : ℕ
  pub times : List ℕ
  pub levels : List ℕ
  pub width : ℕ

-- an entry starts or is finished at the time
abbrev pub IsTimeOf : Project → Entry → ℕ → Type 0
IsTimeOf P e t = (t ≡ e.start) ⊎ (t ≡ finish P e)

-- the starts and finishes of the entries, each once, in ascending order
pub record AreTimes (P : Project) (es : List Entry) (times : List ℕ) : Type 0 where
  pub rising : IsRising times
  pub starts : All (λ e. Contains times e.start) es
  pub finishes : All (λ e. Contains times (finish P e)) es
  pub only : All (λ t. (e : Entry) × Contains es e × IsTimeOf P e t) times

-- the profile is one of the project: its entries have jobs and modes of it, and keep every capacity in every period; the
-- rows have what the entries take of each renewable resource from each of their times on
pub record IsProfileOf (P : Project) (profile : Placed) : Type 0 where
  pub entries : AreOf P profile.entries
  pub capacities : KeepsCapacities P profile.entries
  pub times : AreTimes P profile.entries profile.times
  pub width : profile.width ≡ renewables P
  pub size : length profile.levels ≡ length profile.times * profile.width
  pub levels : (k : ℕ) → IsRenewable P k → IsStepped (usage P profile.entries k) profile.times profile.levels profile.width (k - 1)
