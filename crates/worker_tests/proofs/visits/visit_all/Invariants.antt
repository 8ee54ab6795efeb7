use Rattle.std.proofs.Common.{◌≡◌}
use Rattle.std.specs.Prelude.{All}
use Rattle.precedence_tree.specs.Node.{StandsFor}
use Rattle.tree_worker.specs.Worker.{IsAtWork}
use Rattle.worker_tests.proofs.visits.visit_all.Given as goal

abbrev pub invariant-loop-visit : goal.invariant-loop-visit
invariant-loop-visit g l = record {
  same_table : l.pass.table ≡ l.table;
  work : IsAtWork l.project l.rows (record { worker = l.worker; pass = l.pass.view });
  unrefused : l.pass.view.refused ≡ 0;
  stand : All (StandsFor l.project) l.stack.items;
}
