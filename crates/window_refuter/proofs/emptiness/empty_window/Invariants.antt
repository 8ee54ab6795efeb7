use Rattle.std.proofs.Common.{ℕ, ◌≤◌}
use Rattle.window_refuter.specs.Windows.{earliest_finish, lf_of}
use Rattle.window_refuter.proofs.emptiness.empty_window.Given as goal

abbrev pub invariant-loop-done : goal.invariant-loop-done
invariant-loop-done l = (j : ℕ) → 1 ≤ j → j ≤ l.done → earliest_finish l.project l.windows j ≤ lf_of l.windows j
