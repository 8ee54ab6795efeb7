use Rattle.std.proofs.Common.{◌≡◌, length}
use Rattle.worker_tests.proofs.tables.numbers.Given as goal

abbrev pub invariant-loop-i : goal.invariant-loop-i
invariant-loop-i l = length l.numbers ≡ l.i
