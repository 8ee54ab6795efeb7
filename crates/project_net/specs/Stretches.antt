-- Stretches of periods in each of which there is one amount of a renewable resource.
use Rattle.std.specs.Prelude.{◌≡◌, ℕ, ◌+◌, ◌-◌, ◌<◌, ◌≤◌, nat_lt, if◌then◌else◌, List, [], ◌∷◌, length, slice_index, slice_range}
use Rattle.std.specs.List.{slice_index_or}
use Rattle.rcpsp_model.specs.declared.parts.CalRow.{CalRow}
use Rattle.rcpsp_model.specs.Project.{Project, IsRenewable, renewables}
use Rattle.rcpsp_model.specs.Schedule.{cap, calm}
use Rattle.project_net.specs.declared.stretches.Stretch.{Stretch}
use Rattle.project_net.specs.declared.stretches.StretchTable.{StretchTable}

abbrev pub no_stretch : Stretch
no_stretch = record { begin = 0; capacity = 0 }

-- the first period of a stretch, and what there is in it; stretches count from 0
abbrev pub begin_of : List Stretch → ℕ → ℕ
begin_of stretches i = (slice_index_or stretches i no_stretch).begin

abbrev pub capacity_of : List Stretch → ℕ → ℕ
capacity_of stretches i = (slice_index_or stretches i no_stretch).capacity

-- stretches from period 0 on, each up to the next and the last for good, with what there is of a renewable resource in
-- each of their periods; none begins after period 10,000 or has more than 1,000,000
pub record AreStretches (P : Project) (k : ℕ) (stretches : List Stretch) : Type 0 where
  pub some : 1 ≤ length stretches
  pub first : begin_of stretches 0 ≡ 0
  pub rising : (i j : ℕ) → i < j → j < length stretches → begin_of stretches i < begin_of stretches j
  pub each : (i t : ℕ) → i < length stretches → begin_of stretches i ≤ t → (i + 1 < length stretches → t < begin_of stretches (i + 1)) → cap P k t ≡ capacity_of stretches i
  pub limits : (i : ℕ) → (begin_of stretches i ≤ 10000) × (capacity_of stretches i ≤ 1000000)

-- what a row of the calendar adds to the stretches that reach up to a period: what there is before the row, where that is
-- any period, and the row's own
abbrev pub row_stretches : ℕ → ℕ → CalRow → List Stretch
row_stretches at capacity r = if nat_lt at r.begin
    then record { begin = at; capacity = capacity } ∷ record { begin = r.begin; capacity = r.capacity } ∷ []
    else record { begin = r.begin; capacity = r.capacity } ∷ []

-- the stretches of each renewable resource, one resource's after another's, and the end of the last row
pub record AreAllStretches (P : Project) (table : StretchTable) : Type 0 where
  pub size : length table.firsts.items ≡ renewables P + 1
  pub rising : (k : ℕ) → k < renewables P → slice_index table.firsts.items k ≤ slice_index table.firsts.items (k + 1)
  pub within : (k : ℕ) → k ≤ renewables P → slice_index table.firsts.items k ≤ length table.stretches.items
  pub each : (k : ℕ) → IsRenewable P k → AreStretches P k (slice_range table.stretches.items (slice_index table.firsts.items (k - 1)) (slice_index table.firsts.items k))
  pub calm : table.calm ≡ calm P
