use Rattle.std.proofs.Common.{◌≡◌, ◌<◌}
use Rattle.table_tests.proofs.rows.read_all.Given as goal

abbrev pub invariant-loop : goal.invariant-loop
invariant-loop l = record {
  table : l.pass.table ≡ l.initial.pass.table;
  terms : l.pass.view.terms ≡ l.initial.pass.view.terms;
  next : l.next < 3;
}
