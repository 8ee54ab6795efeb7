use Rattle.std.proofs.Common.{◌≡◌, ◌≤◌, map, take}
use Rattle.project_net.specs.Canonical.{greatest}
use Rattle.project_gen.specs.Made.{need_of}
use Rattle.project_gen.proofs.needs.greatest_need.Given as goal

abbrev pub invariant-loop-mode : goal.invariant-loop-mode
invariant-loop-mode l = record {
  greatest : l.greatest ≡ greatest (map (need_of l.resource) (take l.mode-index l.modes));
  limit : l.greatest ≤ 1000000;
}
