use Rattle.std.proofs.Common.{◌-◌, ◌+◌}
use Rattle.std.proofs.lemmas.Result.{err_from_is_err_and}
use Rattle.psplib_layout.specs.Calendar.{cal_row, cal_rows}
use Rattle.psplib_layout.specs.Reading.{read_wanted}
use Rattle.psplib_layout.specs.Place.{rest_at}
use Rattle.psplib_layout.proofs.Loops.{goes_on, stops}
use Rattle.psplib_layout.proofs.CalendarSteps.{cal_row_read, cal_rows_from, cal_rows_from_stop, cal_rows_done}
use Rattle.psplib_layout.proofs.source.Source.cal_rows_at.Goals as goal

pub returns-in_err-row : goal.returns-in_err-row
returns-in_err-row c =
    let s = c.args.self.now in
    let l = c.loop in
    let p = err_from_is_err_and c.from_residual-in_err-row.result c.from_residual-in_err-row.ensures.1 in
    let lines = rest_at s.words l.at in
    rw (p.1, p.2) (stops c.in_err-row.field-0.0 l.rows.items (read_wanted s.end (cal_row c.args.capacities.now l.before) lines) (read_wanted s.end (cal_rows (c.args.count - l.counter) c.args.capacities.now l.before) lines) _ (λ f h. cal_rows_from_stop s.end c.args.count l.counter c.args.capacities.now l.before lines f c.loop-test.true h) l.invariant.so_far c.in_err-row.ensures)

pub loop-preserved : goal.loop-preserved
loop-preserved c =
    let s = c.args.self.now in
    let l = c.loop in
    let lines = rest_at s.words l.at in
    let after = rest_at s.words c.in_ok-row.behind in
    let row = c.in_ok-row.row in
    let capacities = c.args.capacities.now in
    let read = cal_row_read s.end capacities l.before row lines after l.invariant.resource c.in_ok-row.ensures in
    record {
      resource = read.resource;
      until = read.until;
      so_far = rw c.in_ok-push.ensures.items (goes_on l.rows.items row (read_wanted s.end (cal_rows (c.args.count - l.counter) capacities l.before) lines) (read_wanted s.end (cal_rows (c.args.count - (l.counter + 1)) capacities row) after) _ (cal_rows_from s.end c.args.count l.counter capacities l.before row lines after c.loop-test.true c.in_ok-row.ensures) l.invariant.so_far);
    }

pub returns : goal.returns
returns c =
    let s = c.args.self.now in
    let l = c.loop in
    cal_rows_done s.end c.args.count l.counter c.args.capacities.now l.before l.rows.items (rest_at s.words l.at) _ c.loop-test.false l.invariant.so_far
