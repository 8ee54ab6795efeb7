use Rattle.std.proofs.Common.{◌≡◌, map}
use Rattle.rcpsp_model.specs.Project.{numbers_from}
use Rattle.window_refuter.specs.Dues.{due_of}
use Rattle.window_refuter.proofs.interval.by_finish.Given as goal

abbrev pub invariant-loop-done : goal.invariant-loop-done
invariant-loop-done l = l.dues.items ≡ map (due_of l.windows) (numbers_from 1 l.done)
