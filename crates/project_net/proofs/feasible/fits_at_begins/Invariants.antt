use Rattle.std.proofs.Common.{ℕ, ◌<◌}
use Rattle.project_net.specs.Feasible.{FitsAtBegin}
use Rattle.project_net.proofs.feasible.fits_at_begins.Given as goal

abbrev pub invariant-loop-stretch : goal.invariant-loop-stretch
invariant-loop-stretch l = (i : ℕ) → i < l.stretch-index → FitsAtBegin l.project l.schedule l.resource l.stretches i
