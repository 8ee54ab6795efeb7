use Rattle.window_refuter.proofs.Extended.{extends-then, steps-next}
use Rattle.window_refuter.proofs.candidates.push_all_steps_of.Goals as goal

pub loop-done-preserved : goal.loop-done-preserved
loop-done-preserved c =
    let P = c.args.project.now in
    record {
      extends = extends-then P _ _ _ c.loop-done.invariant.extends c.in_ok-push_steps_of.ensures.extends;
      has = steps-next P _ _ c.args.first c.loop-done.done c.in_ok-push_steps_of.ensures.extends c.loop-done.invariant.has c.in_ok-push_steps_of.ensures.has;
    }
