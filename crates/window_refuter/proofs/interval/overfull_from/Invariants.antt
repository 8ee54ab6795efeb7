use Rattle.std.proofs.Common.{◌*◌, ◌≤◌}
use Rattle.window_refuter.proofs.DueSums.{IsHeldUpTo}
use Rattle.window_refuter.proofs.interval.overfull_from.Given as goal

abbrev pub invariant-loop-place : goal.invariant-loop-place
invariant-loop-place l = record {
  held : IsHeldUpTo l.project l.windows l.dues l.resource l.from l.place l.work;
  limit : l.work ≤ 10000000000 * l.place;
}
