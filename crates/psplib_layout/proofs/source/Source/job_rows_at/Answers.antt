use Rattle.std.proofs.Common.{◌-◌, ◌+◌}
use Rattle.std.proofs.lemmas.Result.{err_from_is_err_and}
use Rattle.psplib_layout.specs.Precedence.{job_row, job_rows}
use Rattle.psplib_layout.specs.Reading.{read_wanted}
use Rattle.psplib_layout.specs.Place.{rest_at}
use Rattle.psplib_layout.proofs.Loops.{goes_on, stops}
use Rattle.psplib_layout.proofs.RowSteps.{rows_from, rows_from_stop, rows_done}
use Rattle.psplib_layout.proofs.source.Source.job_rows_at.Goals as goal

pub returns-in_err-row : goal.returns-in_err-row
returns-in_err-row c =
    let s = c.args.self.now in
    let i = c.loop-index in
    let p = err_from_is_err_and c.from_residual-in_err-row.result c.from_residual-in_err-row.ensures.1 in
    let lines = rest_at s.words i.at in
    rw (p.1, p.2) (stops c.in_err-row.field-0.0 i.rows.items (read_wanted s.end (job_row c.args.jobs (i.index + 1) i.room) lines) (read_wanted s.end (job_rows (c.args.jobs - i.index) c.args.jobs (i.index + 1) i.room) lines) _ (λ f h. rows_from_stop s.end c.args.jobs i.index i.room lines f c.loop-index-test.true h) i.invariant c.in_err-row.ensures)

pub loop-index-preserved : goal.loop-index-preserved
loop-index-preserved c =
    let s = c.args.self.now in
    let i = c.loop-index in
    let lines = rest_at s.words i.at in
    let after = rest_at s.words c.in_ok-row.behind in
    let job = i.index + 1 in
    let row = c.in_ok-row.row in
    let room = i.room - row.modes in
    rw (c.in_ok-push.ensures.items, c.saturating_sub-room.ensures) (goes_on i.rows.items row (read_wanted s.end (job_rows (c.args.jobs - i.index) c.args.jobs job i.room) lines) (read_wanted s.end (job_rows (c.args.jobs - job) c.args.jobs (job + 1) room) after) _ (rows_from s.end c.args.jobs i.index i.room lines after row c.loop-index-test.true c.in_ok-row.ensures) i.invariant)

pub returns : goal.returns
returns c =
    let s = c.args.self.now in
    let i = c.loop-index in
    rows_done s.end c.args.jobs i.index i.room i.rows.items (rest_at s.words i.at) _ c.loop-index-test.false i.invariant
