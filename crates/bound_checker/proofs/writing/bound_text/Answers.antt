use Rattle.std.proofs.Common.{◌≡◌, ◌+◌, List, length, arith, ap, sym, subst}
use Rattle.window_refuter.specs.declared.step.BoundStep.{BoundStep}
use Rattle.bound_checker.specs.Text.{text_of}
use Rattle.bound_checker.proofs.WrittenBounds.{lines_to, next-lines, last-line}
use Rattle.bound_checker.proofs.writing.bound_text.Goals as goal

pub loop-step-preserved : goal.loop-step-preserved
loop-step-preserved c =
    let b = c.args.found.now.bound in
    let i = c.loop-step.step-index in
    let same = c.as_slice-step-items.ensures in
    let text = c.loop-step.text.items in
    let new = c.push_line-in-loop-step.new.text.items in
    subst (λ (steps : List BoundStep). new ≡ text_of (lines_to b steps (i + 1))) same
    (next-lines b i c.as_slice-step-items.result.now _ text new c.loop-step-test.true (subst (λ (steps : List BoundStep). text ≡ text_of (lines_to b steps i)) (sym same) c.loop-step.invariant) c.in_ok-push_line-3.ensures)

pub returns : goal.returns
returns c =
    let same = ap (λ (steps : List BoundStep). length steps) c.as_slice-step-items.ensures in
    let test = c.loop-step-test.false in
    last-line c.args.found.now.bound c.loop-step.step-index c.args.found.now.steps c.loop-step.text.items c.push_line-3.new.text.items (omega arith) c.loop-step.invariant c.in_ok-push_line-4.ensures
