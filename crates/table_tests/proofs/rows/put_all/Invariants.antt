use Rattle.std.proofs.Common.{◌≡◌}
use Rattle.table_tests.proofs.rows.put_all.Given as goal

abbrev pub invariant-loop-number : goal.invariant-loop-number
invariant-loop-number l = record {
  table : l.pass.table ≡ l.initial.pass.table;
  terms : l.pass.view.terms ≡ l.initial.pass.view.terms;
  worker : l.pass.view.number ≡ l.initial.pass.view.number;
  own : l.pass.view.own ≡ l.number;
}
