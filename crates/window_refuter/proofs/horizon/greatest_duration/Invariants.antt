use Rattle.std.proofs.Common.{◌≡◌, ◌≤◌, map, take}
use Rattle.rcpsp_model.specs.Project.{modes_of}
use Rattle.project_net.specs.Canonical.{greatest}
use Rattle.window_refuter.proofs.horizon.greatest_duration.Given as goal

abbrev pub invariant-loop-done : goal.invariant-loop-done
invariant-loop-done l = (l.greatest ≡ greatest (map (λ m. m.duration) (take l.done (modes_of l.project l.job)))) × (l.greatest ≤ 10000)
