use Rattle.project_net.proofs.CalendarLines.{row-pushed}
use Rattle.project_net.proofs.print.push_calendar_rows.Goals as goal

pub loop-place-preserved : goal.loop-place-preserved
loop-place-preserved c =
    row-pushed c.args.project.now.calendar c.loop-place.place c.cal_row.result c.args.text.now.items c.loop-place.text.items c.push_calendar_row.new.text.items
    c.cal_row.ensures c.loop-place.invariant c.in_ok-push_calendar_row.ensures
