use Rattle.std.proofs.Common.{ap, sym, subst, ◌∙◌, ◌↔◌, ◌+◌, length}
use Rattle.std.specs.Prelude.{◌==◌}
use Rattle.std.proofs.lemmas.Bool.{eqb-true}
use Rattle.window_refuter.specs.Windows.{TimeWindows}
use Rattle.window_refuter.specs.Steps.{Refutes}
use Rattle.window_refuter.proofs.FirstWindows.{first-size}
use Rattle.window_refuter.proofs.RefuteSteps.{FromPlace, sound-from, after-contradiction, after-further}
use Rattle.window_refuter.proofs.refutation.refutes.Goals as goal

pub loop-place-init : goal.loop-place-init
loop-place-init c =
    let P = c.args.project.now in
    let steps = c.args.steps.now in
    let same = sym c.new-windows.ensures.windows in
    record {
      size = ap (λ (W : TimeWindows). length W.windows) c.new-windows.ensures.windows ∙ first-size P c.args.end;
      same = subst (λ (W : TimeWindows). Refutes P c.args.end steps ↔ FromPlace P W steps 0) same (λ r. r, λ r. r);
    }

pub returns-in-Contradiction-clause-sound : goal.returns-in-Contradiction-clause-sound
returns-in-Contradiction-clause-sound c =
    let steps = c.args.steps.now in
    let place = c.loop-place.place in
    let last = after-contradiction c.args.project.now c.loop-place.windows steps place _ c.loop-place-test.true c.take.new.self c.take.result c.in-Contradiction.is c.take.ensures.judged in
    sound-from c.args.project.now c.args.end steps (place + 1 == length steps) c.known.ensures.acyclic (λ all. c.loop-place.invariant.same.1 (last.1 (eqb-true (place + 1) (length steps) all)))

pub loop-place-preserved : goal.loop-place-preserved
loop-place-preserved c =
    let next = after-further c.args.project.now c.loop-place.windows c.args.steps.now c.loop-place.place _ c.loop-place-test.true c.take.new.self c.take.result c.in-Further.is c.take.ensures.judged in
    record {
      size = next.0 ∙ c.loop-place.invariant.size;
      same = (λ r. next.1.0 (c.loop-place.invariant.same.0 r), λ r. c.loop-place.invariant.same.1 (next.1.1 r));
    }
