use Rattle.std.proofs.Common.{◌≡◌}
use Rattle.table_tests.proofs.deques.pop_some.Given as goal

abbrev pub invariant-loop : goal.invariant-loop
invariant-loop l = record {
  deque : l.deque.deque ≡ l.initial.deque.deque;
  passes : l.deque.view.passes ≡ l.initial.deque.view.passes;
  split_off : l.deque.view.split_off ≡ l.initial.deque.view.split_off;
}
