use Rattle.std.proofs.Common.{ℕ, ◌≤◌}
use Rattle.project_net.specs.Feasible.{FitsAtStart}
use Rattle.project_net.proofs.feasible.fits_at_starts.Given as goal

abbrev pub invariant-loop-done : goal.invariant-loop-done
invariant-loop-done l = (j : ℕ) → 1 ≤ j → j ≤ l.done → FitsAtStart l.project l.schedule l.resource j
