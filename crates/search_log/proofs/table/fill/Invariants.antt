use Rattle.std.proofs.Common.{◌≡◌, length, drop}
use Rattle.search_log.specs.Stands.{fill_rows, fill_origins}
use Rattle.search_log.proofs.table.fill.Given as goal

abbrev pub invariant-loop-fill : goal.invariant-loop-fill
invariant-loop-fill l = record {
  rows : fill_rows l.table.rows (drop l.fill-index l.fills) ≡ fill_rows l.fn.table.rows l.fills;
  origins : fill_origins l.table.origins (drop l.fill-index l.fills) ≡ fill_origins l.fn.table.origins l.fills;
  row_count : length l.table.rows ≡ length l.fn.table.rows;
  origin_count : length l.table.origins ≡ length l.table.rows;
}
