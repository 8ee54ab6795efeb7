use Rattle.shared_rows.specs.Rows.{AreCells}
use Rattle.shared_rows.proofs.rows.rows_of.Given as goal

abbrev pub invariant-loop : goal.invariant-loop
invariant-loop g l = AreCells l.counter l.cells l.rows.items
