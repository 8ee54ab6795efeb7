use Rattle.std.proofs.Common.{◌≡◌}
use Rattle.table_tests.proofs.table.work.Given as goal

abbrev pub invariant-loop-won : goal.invariant-loop-won
invariant-loop-won l = record {
  table : l.pass.table ≡ l.initial.pass.table;
  passes : l.pass.view.passes ≡ l.initial.pass.view.passes;
  unrefused : l.pass.view.refused ≡ 0;
}
