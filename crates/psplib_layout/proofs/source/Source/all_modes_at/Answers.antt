use Rattle.std.proofs.Common.{◌+◌, drop, ap, arith}
use Rattle.std.proofs.lemmas.Result.{err_from_is_err_and}
use Rattle.std.proofs.lemmas.List.{drop_all}
use Rattle.psplib_layout.specs.Requests.{job_modes, all_modes}
use Rattle.psplib_layout.specs.Layout.{mode_counts}
use Rattle.psplib_layout.specs.Reading.{read_wanted}
use Rattle.psplib_layout.specs.Place.{rest_at}
use Rattle.psplib_layout.proofs.Loops.{goes_on, stops}
use Rattle.psplib_layout.proofs.ModeSteps.{all_from, all_from_stop, all_done, counts_from}
use Rattle.psplib_layout.proofs.source.Source.all_modes_at.Goals as goal

pub returns-in_err-of_job : goal.returns-in_err-of_job
returns-in_err-of_job c =
    let s = c.args.self.now in
    let i = c.loop-row in
    let row = c.row-item.result in
    let p = err_from_is_err_and c.from_residual-in_err-of_job.result c.from_residual-in_err-of_job.ensures.1 in
    let lines = rest_at s.words i.at in
    let counts = counts_from c.args.rows.now i.row-index row c.loop-row-test.true c.row-item.is in
    rw (p.1, p.2) (stops c.in_err-of_job.field-0.0 i.modes.items (read_wanted s.end (job_modes c.args.header.renewables c.args.header.nonrenewables i.job row.modes) lines) (read_wanted s.end (all_modes c.args.header.renewables c.args.header.nonrenewables i.job (mode_counts (drop i.row-index c.args.rows.now))) lines) _ (λ f h. all_from_stop s.end c.args.header.renewables c.args.header.nonrenewables i.job row.modes _ _ lines f counts h) i.invariant.0 c.in_err-of_job.ensures)

pub loop-row-preserved : goal.loop-row-preserved
loop-row-preserved c =
    let s = c.args.self.now in
    let i = c.loop-row in
    let row = c.row-item.result in
    let lines = rest_at s.words i.at in
    let after = rest_at s.words c.in_ok-of_job.behind in
    let modes = c.in_ok-of_job.of_job in
    let counts = counts_from c.args.rows.now i.row-index row c.loop-row-test.true c.row-item.is in
    (rw c.in_ok-push.ensures.items (goes_on i.modes.items modes (read_wanted s.end (all_modes c.args.header.renewables c.args.header.nonrenewables i.job (mode_counts (drop i.row-index c.args.rows.now))) lines) (read_wanted s.end (all_modes c.args.header.renewables c.args.header.nonrenewables (i.job + 1) (mode_counts (drop (i.row-index + 1) c.args.rows.now))) after) _ (all_from s.end c.args.header.renewables c.args.header.nonrenewables i.job row.modes _ _ lines after modes counts c.in_ok-of_job.ensures) i.invariant.0), omega arith)

pub returns : goal.returns
returns c =
    let s = c.args.self.now in
    let i = c.loop-row in
    all_done s.end c.args.header.renewables c.args.header.nonrenewables i.job (mode_counts (drop i.row-index c.args.rows.now)) i.modes.items (rest_at s.words i.at) _ (ap mode_counts (drop_all i.row-index c.args.rows.now (omega arith))) i.invariant.0
