use Rattle.std.proofs.Common.{◌-◌, ◌+◌}
use Rattle.std.proofs.lemmas.Result.{err_from_is_err_and}
use Rattle.psplib_layout.specs.Requests.{mode_row, mode_rows}
use Rattle.psplib_layout.specs.Reading.{read_wanted}
use Rattle.psplib_layout.specs.Place.{rest_at}
use Rattle.psplib_layout.proofs.Loops.{goes_on, stops}
use Rattle.psplib_layout.proofs.ModeSteps.{modes_from, modes_from_stop, modes_done}
use Rattle.psplib_layout.proofs.source.Source.mode_rows_at.Goals as goal

pub returns-in_err-mode : goal.returns-in_err-mode
returns-in_err-mode c =
    let s = c.args.self.now in
    let i = c.loop-index in
    let p = err_from_is_err_and c.from_residual-in_err-mode.result c.from_residual-in_err-mode.ensures.1 in
    let lines = rest_at s.words i.at in
    rw (p.1, p.2) (stops c.in_err-mode.field-0.0 i.modes.items (read_wanted s.end (mode_row c.args.header.renewables c.args.header.nonrenewables (i.index + 1)) lines) (read_wanted s.end (mode_rows (c.args.count - i.index) c.args.header.renewables c.args.header.nonrenewables (i.index + 1)) lines) _ (λ f h. modes_from_stop s.end c.args.count i.index c.args.header.renewables c.args.header.nonrenewables lines f c.loop-index-test.true h) i.invariant c.in_err-mode.ensures)

pub loop-index-preserved : goal.loop-index-preserved
loop-index-preserved c =
    let s = c.args.self.now in
    let i = c.loop-index in
    let lines = rest_at s.words i.at in
    let after = rest_at s.words c.in_ok-mode.behind in
    let mode = c.in_ok-mode.mode in
    rw c.in_ok-push.ensures.items (goes_on i.modes.items mode (read_wanted s.end (mode_rows (c.args.count - i.index) c.args.header.renewables c.args.header.nonrenewables (i.index + 1)) lines) (read_wanted s.end (mode_rows (c.args.count - (i.index + 1)) c.args.header.renewables c.args.header.nonrenewables (i.index + 1 + 1)) after) _ (modes_from s.end c.args.count i.index c.args.header.renewables c.args.header.nonrenewables lines after mode c.loop-index-test.true c.in_ok-mode.ensures) i.invariant)

pub returns : goal.returns
returns c =
    let s = c.args.self.now in
    let i = c.loop-index in
    modes_done s.end c.args.count i.index c.args.header.renewables c.args.header.nonrenewables i.modes.items (rest_at s.words i.at) _ c.loop-index-test.false i.invariant
