use Rattle.search_rounds.proofs.ClosingFills.{lowered-step}
use Rattle.search_rounds.proofs.closing.lowered.Goals as goal

pub loop-waiting-preserved : goal.loop-waiting-preserved
loop-waiting-preserved c = record {
  least = lowered-step c.args.project.now c.args.left.now c.loop-waiting.waiting-index c.waiting-item.result c.args.best.end c.loop-waiting.least c.in_ok-next.next c.loop-waiting-test.true c.waiting-item.is c.loop-waiting.invariant.least
      c.in_ok-next.ensures.better;
  plan = c.in_ok-next.ensures.plan;
  soon = c.in_ok-next.ensures.soon;
}
