use Rattle.std.proofs.Common.{arith}
use Rattle.project_net.proofs.GreatestDurations.{greatest-more}
use Rattle.window_refuter.proofs.horizon.greatest_duration.Goals as goal
use Rattle.window_refuter.proofs.horizon.greatest_duration.Goals.{then-greatest-duration, else-greatest-duration}

pub loop-done-preserved : goal.loop-done-preserved
loop-done-preserved c =
    let more = greatest-more c.args.project.now c.args.job c.loop-done.done (let t = c.loop-done-test.true in let n = c.modes-done-end.ensures.value in omega arith) in
    let value = c.duration-duration.ensures.value in let limit = c.duration-duration.ensures.limit in
    let old = c.loop-done.invariant.0 in let few = c.loop-done.invariant.1 in
    elim c.if-greatest-duration.branch [
      | then-greatest-duration w ↦ let t = w.if-greatest-duration.true in let e = w.greatest-is in (omega arith, omega arith)
      | else-greatest-duration w ↦ let f = w.if-greatest-duration.false in let e = w.greatest-is in (omega arith, omega arith)
    ]
