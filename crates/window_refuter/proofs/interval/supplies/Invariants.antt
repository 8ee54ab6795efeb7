use Rattle.std.proofs.Common.{◌≡◌, map, take}
use Rattle.rcpsp_model.specs.Bounds.{supply}
use Rattle.window_refuter.proofs.interval.supplies.Given as goal

abbrev pub invariant-loop-due : goal.invariant-loop-due
invariant-loop-due l = l.supplies.items ≡ map (λ d. supply l.project l.resource 0 d.latest_finish) (take l.due-index l.dues)
