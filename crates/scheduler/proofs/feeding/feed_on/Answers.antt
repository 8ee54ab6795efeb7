use Rattle.std.proofs.Common.{◌≤◌, arith}
use Rattle.scheduler.specs.declared.feeding.TheConstants.{MOST_JUDGED}
use Rattle.scheduler.proofs.FedTexts.{takes_most}
use Rattle.scheduler.proofs.feeding.feed_on.Goals as goal

pub returns-clause-all : goal.returns-clause-all
returns-clause-all g c =
    let test : MOST_JUDGED ≤ c.loop-taken.taken = let given = c.loop-taken-test.false in omega arith in
    takes_most (g.S.Shelf.texts c.args.shelf.now) (g.J.Judge.stands c.loop-taken.judge) (g.S.Shelf.left c.args.shelf.now) (g.S.Shelf.left c.loop-taken.shelf) c.loop-taken.taken c.loop-taken.invariant.has
    (λ bytes more size s. c.known.ensures bytes more (omega arith) s)
