use Rattle.std.proofs.Common.{ℕ, ◌≤◌}
use Rattle.window_refuter.specs.Dues.{HoldsWithin}
use Rattle.window_refuter.proofs.interval.overfull.Given as goal

abbrev pub invariant-loop-done : goal.invariant-loop-done
invariant-loop-done l = (k : ℕ) → 1 ≤ k → k ≤ l.done → (a b : ℕ) → a ≤ b → HoldsWithin l.project l.windows k a b
