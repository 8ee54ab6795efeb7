use Rattle.std.proofs.Common.{◌≡◌}
use Rattle.table_tests.proofs.deques.push_some.Given as goal

abbrev pub invariant-loop-place : goal.invariant-loop-place
invariant-loop-place l = record {
  deque : l.deque.deque ≡ l.initial.deque.deque;
  terms : l.deque.view.terms ≡ l.initial.deque.view.terms;
  passes : l.deque.view.passes ≡ l.initial.deque.view.passes;
  split_off : l.deque.view.split_off ≡ l.initial.deque.view.split_off;
}
