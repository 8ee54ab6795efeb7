use Rattle.std.proofs.Common.{ℕ, ◌-◌, ◌≤◌, ◌<◌, max}
use Rattle.rcpsp_model.specs.Schedule.{end_of, calm}
use Rattle.rcpsp_model.specs.Tree.{Fits}
use Rattle.profiles.proofs.profile.Profile.earliest.Given as goal

-- no start from the floor on before this one fits, and one no later than the floor, the last finish and the calm does
abbrev pub invariant-starts : goal.invariant-starts
invariant-starts l = record {
  after : l.floor ≤ l.start;
  before : l.start ≤ max l.floor (max (end_of l.project l.self.entries) (calm l.project));
  none : (t : ℕ) → l.floor ≤ t → t < l.start → Fits l.project l.self.entries l.job l.mode t → ⊥;
}

abbrev pub decreases-starts : goal.decreases-starts
decreases-starts l = max l.floor (max (end_of l.project l.self.entries) (calm l.project)) - l.start
