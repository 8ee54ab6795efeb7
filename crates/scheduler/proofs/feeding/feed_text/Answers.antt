use Rattle.std.proofs.Common.{subst}
use Rattle.std.proofs.lemmas.Result.{on_ok_weaker}
use Rattle.scheduler.specs.Feeding.{HasAll}
use Rattle.scheduler.proofs.FedTexts.{told}
use Rattle.scheduler.proofs.feeding.feed_text.Goals as goal

pub returns-clause-text : goal.returns-clause-text
returns-clause-text g c =
    let left = g.S.Shelf.left c.begin.new.self in
    let stands = g.J.Judge.stands c.feed_on.new.judge in
    on_ok_weaker c.feed_on.result (λ all. told (g.S.Shelf.texts c.args.shelf.now) stands c.args.name.now left (subst (λ texts. HasAll texts stands left) c.begin.ensures.texts all) c.in_ok-begin.ensures.begun) c.feed_on.ensures.all
