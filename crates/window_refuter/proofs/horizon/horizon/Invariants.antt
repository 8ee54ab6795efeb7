use Rattle.std.proofs.Common.{◌≡◌, ◌≤◌, ◌*◌, take}
use Rattle.project_net.proofs.GreatestDurations.{horizon_of}
use Rattle.window_refuter.proofs.horizon.horizon.Given as goal

abbrev pub invariant-loop-done : goal.invariant-loop-done
invariant-loop-done l = (l.sum ≡ horizon_of (take l.done l.project.activities)) × (l.sum ≤ 10000 * l.done)
