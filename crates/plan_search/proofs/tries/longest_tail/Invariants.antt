use Rattle.std.proofs.Common.{◌≤◌}
use Rattle.plan_search.proofs.tries.longest_tail.Given as goal

abbrev pub invariant-loop-done : goal.invariant-loop-done
invariant-loop-done l = l.longest ≤ 1280000
