-- Numbers over the periods that change at certain times alone. They are kept as these times in ascending order, and a row
-- of numbers for each time, all of one width, one row after another.
use Rattle.std.specs.Prelude.{◌≡◌, ℕ, ◌+◌, ◌*◌, ◌<◌, ◌≤◌, List, length, slice_index, vec_len, vec_capacity}
use Rattle.profiles.specs.declared.steps.Steps.{Steps}

-- each number is less than those after it
abbrev pub IsRising : List ℕ → Type 0
IsRising times = (i j : ℕ) → i < j → j < length times → slice_index times i < slice_index times j

-- the number of each period is 0 before the first time, and from each time up to the next, from the last for good, what
-- stands in a place of the time's row
pub record IsStepped (number : ℕ → ℕ) (times levels : List ℕ) (width place : ℕ) : Type 0 where
  pub before : (t : ℕ) → (0 < length times → t < slice_index times 0) → number t ≡ 0
  pub within : (i t : ℕ) → i < length times → slice_index times i ≤ t → (i + 1 < length times → t < slice_index times (i + 1)) → number t ≡ slice_index levels (i * width + place)

-- the same of the numbers in a place of the rows that the code keeps
abbrev pub HasSteps : (ℕ → ℕ) → Steps → ℕ → Type 0
HasSteps number steps place = IsStepped number steps.times.items steps.levels.items steps.width place

-- the times ascend, and each has a row
pub record AreInOrder (steps : Steps) : Type 0 where
  pub rising : IsRising steps.times.items
  pub size : length steps.levels.items ≡ length steps.times.items * steps.width

-- room for so many more times and their rows
pub record HaveRoom (steps : Steps) (more : ℕ) : Type 0 where
  pub times : vec_len steps.times + more ≤ vec_capacity steps.times
  pub levels : vec_len steps.levels + more * steps.width ≤ vec_capacity steps.levels

-- periods in a row that all have the property: the first is one of those from the one up to the other, and the last is the
-- one before the end
pub record IsSpan (Q : ℕ → Type 0) (from until end : ℕ) : Type 0 where
  pub begin : ℕ
  pub after : from ≤ begin
  pub inside : begin < until
  pub some : begin < end
  pub each : (t : ℕ) → begin ≤ t → t < end → Q t
