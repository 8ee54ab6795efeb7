use Rattle.std.proofs.Common.{ℕ, ◌<◌, ◌≤◌, length, get_or}
use Rattle.profiles.specs.Steps.{HasSteps}
use Rattle.profiles.proofs.steps.over_up_to.Given as goal

-- in the periods before the row's time the number isn't above the limit
abbrev pub invariant-loop-row : goal.invariant-loop-row
invariant-loop-row l = (number : ℕ → ℕ) → HasSteps number l.steps l.place → (t : ℕ) → l.from ≤ t → t < l.until → (l.row < length l.steps.times.items → t < get_or l.steps.times.items l.row 0) → number t ≤ l.limit
