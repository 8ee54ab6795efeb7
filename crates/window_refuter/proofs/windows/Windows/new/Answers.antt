use Rattle.std.proofs.Common.{ap, sym, subst, List, length, ◌∙◌}
use Rattle.window_refuter.specs.declared.window.Window.{Window}
use Rattle.window_refuter.specs.Windows.{AreWithin}
use Rattle.window_refuter.proofs.FirstWindows.{first-within, first-taken, first-size}
use Rattle.window_refuter.proofs.windows.Windows.new.Goals as goal

pub invariant_of-result : goal.invariant_of-result
invariant_of-result c =
    let first = first-taken c.args.project.now c.args.end c.jobs.result c.same_windows.result c.jobs.ensures.value c.jobs.ensures.few c.same_windows.ensures in
    (c.requires, c.jobs.ensures.few, subst (AreWithin c.args.end) (sym first) (first-within c.args.project.now c.args.end))

pub returns-clause-windows : goal.returns-clause-windows
returns-clause-windows c =
    let first = first-taken c.args.project.now c.args.end c.jobs.result c.same_windows.result c.jobs.ensures.value c.jobs.ensures.few c.same_windows.ensures in
    ap (λ (ws : List Window). record { end = c.args.end; windows = ws }) first

pub returns-clause-size : goal.returns-clause-size
returns-clause-size c =
    let first = first-taken c.args.project.now c.args.end c.jobs.result c.same_windows.result c.jobs.ensures.value c.jobs.ensures.few c.same_windows.ensures in
    ap (λ (ws : List Window). length ws) first ∙ first-size c.args.project.now c.args.end
