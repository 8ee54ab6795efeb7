use Rattle.std.proofs.Common.{◌≡◌, ◌*◌, ◌≤◌, length, take}
use Rattle.psplib_layout.specs.Precedence.{rows_numbers}
use Rattle.psplib_layout.proofs.job_line.count_of_numbers.Given as goal

abbrev pub invariant-loop-row : goal.invariant-loop-row
invariant-loop-row l = (l.count ≡ length (rows_numbers 1 (take l.row-index l.rows))) × (l.count ≤ 131 * l.row-index)
