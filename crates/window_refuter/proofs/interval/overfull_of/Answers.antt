use Rattle.std.proofs.Common.{◌+◌, arith, ap}
use Rattle.window_refuter.specs.declared.window.Window.{Window}
use Rattle.window_refuter.proofs.WindowLimits.{es_limit}
use Rattle.window_refuter.proofs.StartTimes.{holds-all}
use Rattle.window_refuter.proofs.interval.overfull_of.Goals as goal

pub overfull_from-requires-clause-soon : goal.overfull_from-requires-clause-soon
overfull_from-requires-clause-soon c =
    let own = ap (λ (w : Window). w.earliest_start) c.window-from.ensures in
    let limit = es_limit c.args.windows.now (c.loop-done.done + 1) 1290000 c.requires.within.starts in
    omega arith

pub returns-clause-none : goal.returns-clause-none
returns-clause-none c =
    holds-all c.args.project.now c.args.windows.now c.requires.none_empty c.args.resource
    (λ j job b low. c.loop-done.invariant j job.0 (let high = job.1 in let count = c.jobs-done-end.ensures.value in let past = c.loop-done-test.false in omega arith) b low)
