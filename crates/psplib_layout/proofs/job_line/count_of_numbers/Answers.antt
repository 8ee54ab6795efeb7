use Rattle.std.proofs.Common.{◌≤◌, length, subst, sym, arith}
use Rattle.psplib_layout.proofs.JobLines.{count_more}
use Rattle.psplib_layout.proofs.job_line.count_of_numbers.Goals as goal

pub loop-row-preserved : goal.loop-row-preserved
loop-row-preserved c =
    let rows = c.args.rows.now in
    let i = c.loop-row.row-index in
    let row = c.row-item.result in
    let few : length row.successors ≤ 128 = subst (λ r. length r.successors ≤ 128) (sym c.row-item.is) (c.requires.successors i row c.loop-row-test.true) in
    let more = count_more rows i row c.loop-row-test.true c.row-item.is in
    (omega (arith, more, c.len.ensures, c.loop-row.invariant.0), omega (arith, few, c.len.ensures, c.loop-row.invariant.1))
