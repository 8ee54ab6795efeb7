use Rattle.std.proofs.Common.{◌≡◌}
use Rattle.table_tests.proofs.deques.steal_some.Given as goal

abbrev pub invariant-loop : goal.invariant-loop
invariant-loop l = record {
  deque : l.thief.deque ≡ l.initial.thief.deque;
  passes : l.thief.view.passes ≡ l.initial.thief.view.passes;
}
