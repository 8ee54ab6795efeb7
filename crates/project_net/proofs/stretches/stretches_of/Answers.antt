use Rattle.std.proofs.Common.{arith, ap, List, length, get_or}
use Rattle.rcpsp_model.specs.declared.parts.CalRow.{CalRow}
use Rattle.project_net.proofs.CalendarRows.{no_row}
use Rattle.project_net.proofs.StretchSteps.{row-more, end-more}
use Rattle.project_net.proofs.stretches.stretches_of.Goals as goal

pub loop-row-preserved : goal.loop-row-preserved
loop-row-preserved c =
    let rows = c.calendar-row-items.ensures in
    let size = ap length rows in let test = c.loop-row-test.true in
    row-more c.args.network.now c.args.resource c.loop-row.row-index c.loop-row.at c.capacity-capacity.result c.loop-row.stretches.items _ _ c.known.ensures c.requires (omega arith) c.loop-row.invariant
    (ap (λ (l : List CalRow). get_or l c.loop-row.row-index no_row) rows) c.if-row-resource.false c.capacity-capacity.ensures.value c.in_ok-push_row.ensures

pub returns : goal.returns
returns c =
    let size = ap length c.calendar-row-items.ensures in let test = c.loop-row-test.false in
    end-more c.args.network.now c.args.resource c.loop-row.row-index c.loop-row.at c.capacity-capacity.result c.loop-row.stretches.items _ c.known.ensures c.requires (omega arith) c.loop-row.invariant
    c.capacity-capacity.ensures.value c.in_ok-push.ensures.items
