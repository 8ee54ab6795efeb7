use Rattle.std.proofs.Common.{ℕ, ◌+◌, ◌-◌, ◌<◌, ◌≤◌, length}
use Rattle.rcpsp_model.specs.Schedule.{cap}
use Rattle.project_net.specs.Stretches.{begin_of}
use Rattle.profiles.specs.Steps.{HasSteps}
use Rattle.profiles.proofs.shortage.short_up_to.Given as goal

-- there is enough in the periods before the stretch of the place
abbrev pub invariant-loop-place : goal.invariant-loop-place
invariant-loop-place l = (number : ℕ → ℕ) → HasSteps number l.steps (l.resource - 1) → (t : ℕ) → l.from ≤ t → t < l.until → (l.place < length l.stretches → t < begin_of l.stretches l.place) → number t + l.request ≤ cap l.project l.resource t
