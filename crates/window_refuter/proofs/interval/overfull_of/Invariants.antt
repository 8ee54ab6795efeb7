use Rattle.std.proofs.Common.{ℕ, ◌≤◌}
use Rattle.window_refuter.specs.Windows.{es_of}
use Rattle.window_refuter.specs.Dues.{HoldsWithin}
use Rattle.window_refuter.proofs.interval.overfull_of.Given as goal

abbrev pub invariant-loop-done : goal.invariant-loop-done
invariant-loop-done l = (j : ℕ) → 1 ≤ j → j ≤ l.done → (b : ℕ) → es_of l.windows j ≤ b → HoldsWithin l.project l.windows l.resource (es_of l.windows j) b
