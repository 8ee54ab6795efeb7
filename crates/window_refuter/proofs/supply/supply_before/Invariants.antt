use Rattle.std.proofs.Common.{◌≡◌, ◌≤◌, ◌*◌}
use Rattle.rcpsp_model.specs.Bounds.{supply}
use Rattle.window_refuter.specs.Supply.{border}
use Rattle.window_refuter.proofs.supply.supply_before.Given as goal

abbrev pub invariant-loop-place : goal.invariant-loop-place
invariant-loop-place l = record {
  at : l.at ≡ border l.stretches l.until l.place;
  sum : l.sum ≡ supply l.project l.resource 0 l.at;
  limit : l.sum ≤ 1000000 * l.at;
  soon : l.at ≤ l.until;
}
