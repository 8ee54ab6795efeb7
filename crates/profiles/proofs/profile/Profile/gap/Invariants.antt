use Rattle.std.proofs.Common.{ℕ, ◌≤◌}
use Rattle.rcpsp_model.specs.Project.{request}
use Rattle.profiles.specs.Room.{HasRoom}
use Rattle.profiles.proofs.profile.Profile.gap.Given as goal

abbrev pub invariant-loop-done : goal.invariant-loop-done
invariant-loop-done l = (k : ℕ) → 1 ≤ k → k ≤ l.done → HasRoom l.project l.self.entries k (request l.project l.job l.mode k) l.at l.until
