use Rattle.std.proofs.Common.{arith, sym, subst}
use Rattle.window_refuter.specs.Candidates.{AreNarrowingSteps}
use Rattle.window_refuter.proofs.Extended.{all-next, all-steps}
use Rattle.window_refuter.proofs.candidates.narrowing_steps.Goals as goal

pub loop-done-preserved : goal.loop-done-preserved
loop-done-preserved c =
    let P = c.args.project.now in
    record {
      grounded = c.in_ok-push_all_steps_of.ensures.extends.grounded c.loop-done.invariant.grounded;
      has = all-next P _ _ c.loop-done.done c.in_ok-push_all_steps_of.ensures.extends c.loop-done.invariant.has c.in_ok-push_all_steps_of.ensures.has;
    }

pub returns : goal.returns
returns c =
    let P = c.args.project.now in
    subst (AreNarrowingSteps P) (sym c.from_vec.ensures)
    (all-steps P _ c.known.ensures.acyclic c.loop-done.invariant.grounded
    (λ i j job other. c.loop-done.invariant.has i j job.0 (let high = job.1 in let count = c.jobs-done-end.ensures.value in let past = c.loop-done-test.false in omega arith) other))
