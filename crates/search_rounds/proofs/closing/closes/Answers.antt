use Rattle.std.proofs.Common.{refl}
use Rattle.search_rounds.specs.Closing.{after_last}
use Rattle.search_rounds.proofs.ClosingFills.{closes-step}
use Rattle.search_rounds.proofs.closing.closes.Goals as goal

pub loop-waiting-preserved : goal.loop-waiting-preserved
loop-waiting-preserved c =
    let w = c.waiting-item.result in
    closes-step c.args.project.now c.args.best c.args.number c.args.left.now c.loop-waiting.waiting-index w c.loop-waiting.fills.items c.push.new.self.items
    (record { place = w.place; fate = c.fate_of_left-fate.result; origin = after_last c.args.number }) c.loop-waiting-test.true c.waiting-item.is c.loop-waiting.invariant c.in_ok-push.ensures.items
    (record { place = refl; origin = refl; late = c.fate_of_left-fate.ensures.late; leaf = c.fate_of_left-fate.ensures.leaf })
