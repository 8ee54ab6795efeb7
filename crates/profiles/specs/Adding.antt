-- What is kept as steps, with one more entry's requests: first its start and its finish are put in among the times, and then
-- the requests are added in the rows between.
use Rattle.std.specs.Prelude.{◌≡◌, ℕ, ◌+◌, ◌-◌, ◌*◌, ◌%◌, ◌<◌, ◌≤◌, ◌⊎◌, ◌&&◌, nat_le, nat_lt, if◌then◌else◌, List, length, slice_index}
use Rattle.std.specs.List.{insert}
use Rattle.profiles.specs.declared.steps.Steps.{Steps}
use Rattle.profiles.specs.Steps.{HasSteps, AreInOrder}

-- numbers after some were put in before the first of a row, so far as up to a place: those of the row before it, or 0
-- where there is none
pub record AreShifted (old new : List ℕ) (first width upto : ℕ) : Type 0 where
  pub size : length new ≡ length old + (upto - first)
  pub below : (q : ℕ) → q < first → slice_index new q ≡ slice_index old q
  pub own : (q : ℕ) → first ≤ q → q < upto → slice_index new q ≡ (if nat_lt first width then 0 else slice_index old (q - width))
  pub above : (q : ℕ) → first ≤ q → slice_index new (q + (upto - first)) ≡ slice_index old q

-- the time wasn't among the times, and was put in at its place with a row like the one before
pub record IsPutIn (old new : Steps) (time at : ℕ) : Type 0 where
  pub width : new.width ≡ old.width
  pub within : at ≤ length old.times.items
  pub times : new.times.items ≡ insert old.times.items at time
  pub below : (i : ℕ) → i < at → slice_index old.times.items i < time
  pub above : (i : ℕ) → at ≤ i → i < length old.times.items → time < slice_index old.times.items i
  pub levels : AreShifted old.levels.items new.levels.items (at * old.width) old.width (at * old.width + old.width)

-- the time was there
pub record IsThere (old new : Steps) (time at : ℕ) : Type 0 where
  pub same : new ≡ old
  pub within : at < length old.times.items
  pub found : slice_index old.times.items at ≡ time

-- the time is there now, at this place, and the numbers of the periods are what they were
abbrev pub IsSplit : Steps → Steps → ℕ → ℕ → Type 0
IsSplit old new time at = IsThere old new time at ⊎ IsPutIn old new time at

-- requests were added to the numbers from the first place up to the other, over and over from the first on
pub record AreRaised (old new : List ℕ) (first until : ℕ) (requests : List ℕ) : Type 0 where
  pub size : length new ≡ length old
  pub inside : (q : ℕ) → first ≤ q → q < until → slice_index new q ≡ slice_index old q + slice_index requests (q % length requests)
  pub outside : (q : ℕ) → (q < first) ⊎ (until ≤ q) → slice_index new q ≡ slice_index old q

-- a number from the start up to the finish, and 0 in all other periods
abbrev pub between : ℕ → ℕ → ℕ → ℕ → ℕ
between start finish number t = if nat_le start t && nat_lt t finish then number else 0

-- the requests of an entry were added in the periods from its start up to its finish
pub record IsAdded (old new : Steps) (start finish : ℕ) (requests : List ℕ) : Type 0 where
  pub width : new.width ≡ old.width
  pub order : AreInOrder new
  pub few : length new.times.items ≤ length old.times.items + 2
  pub stepped : (number : ℕ → ℕ) (place : ℕ) → place < old.width → HasSteps number old place → HasSteps (λ t. number t + between start finish (slice_index requests place) t) new place
  pub kept : (i : ℕ) → i < length old.times.items → (j : ℕ) × (j < length new.times.items) × (slice_index new.times.items j ≡ slice_index old.times.items i)
  pub first : (j : ℕ) × (j < length new.times.items) × (slice_index new.times.items j ≡ start)
  pub last : (j : ℕ) × (j < length new.times.items) × (slice_index new.times.items j ≡ finish)
  pub only : (j : ℕ) → j < length new.times.items → ((i : ℕ) × (i < length old.times.items) × (slice_index old.times.items i ≡ slice_index new.times.items j)) ⊎ (slice_index new.times.items j ≡ start) ⊎ (slice_index new.times.items j ≡ finish)
