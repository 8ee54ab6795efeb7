use Rattle.std.proofs.Common.{ap, subst, ◌∙◌, length}
use Rattle.std.specs.Prelude.{IfOk, IfNone}
use Rattle.window_refuter.specs.Windows.{TimeWindows}
use Rattle.window_refuter.specs.Refuted.{NoneRefutesFrom}
use Rattle.window_refuter.proofs.FirstWindows.{first-size}
use Rattle.window_refuter.proofs.refutation.refute_by.Goals as goal

pub refute-requires-clause-size : goal.refute-requires-clause-size
refute-requires-clause-size c = ap (λ (W : TimeWindows). length W.windows) c.new.ensures.windows ∙ first-size c.args.project.now c.args.end

pub returns-clause-none : goal.returns-clause-none
returns-clause-none c =
    let P = c.args.project.now in
    subst (λ (W : TimeWindows). IfOk c.refute.result (λ o. IfNone o (NoneRefutesFrom P W.end W.windows))) c.new.ensures.windows c.refute.ensures.none
