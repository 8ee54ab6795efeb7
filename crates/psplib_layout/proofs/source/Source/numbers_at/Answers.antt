use Rattle.std.proofs.Common.{◌-◌, ◌+◌}
use Rattle.std.proofs.lemmas.Result.{err_from_is_err_and}
use Rattle.psplib_layout.specs.Reading.{number_in, read_wanted}
use Rattle.psplib_layout.specs.Place.{rest_at}
use Rattle.psplib_layout.specs.Wanted.{times}
use Rattle.psplib_layout.proofs.Loops.{goes_on, stops, times_from, times_from_stops}
use Rattle.psplib_layout.proofs.source.Source.numbers_at.Goals as goal

pub returns-in_err-n : goal.returns-in_err-n
returns-in_err-n c =
    let s = c.args.self.now in
    let p = err_from_is_err_and c.from_residual-in_err-n.result c.from_residual-in_err-n.ensures.1 in
    let lines = rest_at s.words c.loop.at in
    rw (p.1, p.2) (stops c.in_err-n.field-0.0 c.loop.numbers.items (number_in s.end c.args.rule lines) (read_wanted s.end (times (c.args.count - c.loop.counter) c.args.rule) lines) _ (λ f h. times_from_stops s.end c.args.count c.loop.counter c.args.rule lines f c.loop-test.true h) c.loop.invariant c.in_err-n.ensures)

pub loop-preserved : goal.loop-preserved
loop-preserved c =
    let s = c.args.self.now in
    let lines = rest_at s.words c.loop.at in
    let after = rest_at s.words c.in_ok-n.behind in
    rw c.in_ok-push.ensures.items (goes_on c.loop.numbers.items c.in_ok-n.n (read_wanted s.end (times (c.args.count - c.loop.counter) c.args.rule) lines) (read_wanted s.end (times (c.args.count - (c.loop.counter + 1)) c.args.rule) after) _ (times_from s.end c.args.count c.loop.counter c.args.rule lines after c.in_ok-n.n c.loop-test.true c.in_ok-n.ensures) c.loop.invariant)
