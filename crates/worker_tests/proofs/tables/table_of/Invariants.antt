use Rattle.std.proofs.Common.{◌≡◌, length, take}
use Rattle.worker_tests.proofs.tables.table_of.Given as goal

abbrev pub invariant-loop-place : goal.invariant-loop-place
invariant-loop-place l = record { rows : l.table.rows ≡ take l.place l.rows; count : length l.table.origins ≡ length l.table.rows }
