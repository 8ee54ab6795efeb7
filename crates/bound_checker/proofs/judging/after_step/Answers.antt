use Rattle.std.proofs.Common.{◌+◌, ◌∙◌, ap, arith}
use Rattle.window_refuter.specs.declared.line.BoundLine.TheVariants.{Step}
use Rattle.window_refuter.specs.Windows.{TimeWindows}
use Rattle.bound_checker.proofs.NextLines.{begin-step, step-of, step-next, shown-next}
use Rattle.bound_checker.proofs.judging.after_step.Goals as goal

pub overflow_add-result : goal.overflow_add-result
overflow_add-result c =
    let soon = c.known.ensures.end in
    omega (arith, c.end.ensures)

pub returns-in-NotAllowed-clause-next : goal.returns-in-NotAllowed-clause-next
returns-in-NotAllowed-clause-next c lines at b =
    let own = begin-step c.args.project.now c.args.windows.now lines (Step c.args.step) at b in
    c.take-judged.ensures.not_allowed.0 c.in-NotAllowed.is (step-of c.args.project.now c.args.windows.now c.args.step own.0 own.1 own.2)

pub returns-in-Further-clause-next : goal.returns-in-Further-clause-next
returns-in-Further-clause-next c lines at =
    let j = c.in-Further.ensures.judged in
    step-next c.args.project.now c.args.windows.now c.take-judged.new.self c.args.step lines j.0 j.1 j.2 at

pub returns-in-Contradiction-clause-next : goal.returns-in-Contradiction-clause-next
returns-in-Contradiction-clause-next c lines at =
    let j = c.in-Contradiction.ensures.judged in
    shown-next c.args.project.now c.args.windows.now (c.end.result + 1) c.args.step lines j.0 j.1 (ap (λ n. n + 1) (c.end.ensures ∙ ap (λ (W : TimeWindows). W.end) j.2)) at
