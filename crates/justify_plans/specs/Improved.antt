-- What passes back and forth make of a schedule.
use Rattle.std.specs.Prelude.{◌≡◌, ℕ, ◌<◌, ◌≤◌, List, map}
use Rattle.rcpsp_model.specs.declared.parts.Placing.{Placing}
use Rattle.rcpsp_model.specs.Project.{Project}
use Rattle.rcpsp_model.specs.Schedule.{end_of, entries}
use Rattle.justify_plans.specs.Passes.{IsBackward, IsForward}

-- the end of a schedule
abbrev pub end_in : Project → List Placing → ℕ
end_in P s = end_of P (entries s)

-- the backward pass, and then the forward pass
pub record IsDoublePass (P : Project) (s r : List Placing) : Type 0 where
  pub late : List Placing
  pub backward : IsBackward P s late
  pub forward : IsForward P late r

-- r is what s is improved to: passes back and forth go on while the end falls, and the result is that of the last one
pub data IsImproved (P : Project) : List Placing → List Placing → Type 0 where
  at_last : {s r : List Placing} → IsDoublePass P s r → end_in P s ≤ end_in P r → IsImproved P s r
  goes_on : {s q r : List Placing} → IsDoublePass P s q → end_in P q < end_in P s → IsImproved P q r → IsImproved P s r

-- each job has the mode that it had
abbrev pub HasSameModes : List Placing → List Placing → Type 0
HasSameModes s r = map (λ (p : Placing). p.mode) r ≡ map (λ (p : Placing). p.mode) s
