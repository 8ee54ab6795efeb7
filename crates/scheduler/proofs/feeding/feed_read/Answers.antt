use Rattle.std.proofs.Common.{arith}
use Rattle.scheduler.proofs.FedTexts.{goes, stops}
use Rattle.scheduler.proofs.feeding.feed_read.Goals as goal

pub returns-then-take-clause-taken : goal.returns-then-take-clause-taken
returns-then-take-clause-taken g c =
    goes (g.S.Shelf.texts c.args.shelf.now) (g.J.Judge.stands c.args.judge.now) (g.J.Judge.stands c.take.new.self) (g.S.Shelf.left c.args.shelf.now) (g.S.Shelf.left c.read.new.self) _ c.in_ok-count.count c.in_ok-count.ensures.bound
    (let same = c.read.auto.piece in let some = c.requires.piece in omega arith) c.in_ok-count.ensures.taken c.take.ensures.stands

pub returns-else-take-clause-taken : goal.returns-else-take-clause-taken
returns-else-take-clause-taken g c =
    stops (g.S.Shelf.texts c.args.shelf.now) (g.J.Judge.stands c.args.judge.now) (g.J.Judge.stands c.take.new.self) (g.S.Shelf.left c.args.shelf.now) (g.S.Shelf.left c.read.new.self) _ c.in_ok-count.count
    (c.take.ensures.enough c.if-take.false) c.in_ok-count.ensures.taken c.take.ensures.stands
