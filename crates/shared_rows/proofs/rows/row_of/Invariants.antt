use Rattle.std.proofs.Common.{◌≡◌, vec_len}
use Rattle.shared_rows.proofs.rows.row_of.Given as goal

abbrev pub invariant-loop : goal.invariant-loop
invariant-loop g l = vec_len l.row ≡ l.counter
