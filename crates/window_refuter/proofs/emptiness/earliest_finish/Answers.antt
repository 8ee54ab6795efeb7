use Rattle.std.proofs.Common.{arith, ap}
use Rattle.window_refuter.specs.declared.window.Window.{Window}
use Rattle.window_refuter.proofs.WindowLimits.{es_limit}
use Rattle.window_refuter.proofs.emptiness.earliest_finish.Goals as goal

pub overflow_add-result : goal.overflow_add-result
overflow_add-result c =
    let start = es_limit c.args.windows.now c.args.job 1290000 c.requires.starts in
    let own = ap (λ (w : Window). w.earliest_start) c.window.ensures in
    omega arith

pub returns-clause-limit : goal.returns-clause-limit
returns-clause-limit c =
    let start = es_limit c.args.windows.now c.args.job 1290000 c.requires.starts in
    let own = ap (λ (w : Window). w.earliest_start) c.window.ensures in
    let least = c.least_duration.ensures.limit in
    omega arith
