use Rattle.std.proofs.lemmas.List.Elements.{All-pop}
use Rattle.precedence_tree.specs.Children.{StandsWherePlaced}
use Rattle.worker_tests.proofs.workers.push_placed.Goals as goal

pub loop-next-preserved : goal.loop-next-preserved
loop-next-preserved c = λ P stand children.
    let before = c.loop-next.invariant P stand children in
    let popped = All-pop (StandsWherePlaced P) c.loop-next.left.items c.pop.new.self.items c.pop.result c.pop.ensures.items before.1 in
    let next = rw c.in-Some.is at popped.1 in (c.in_ok-push_child.ensures P before.0 next, popped.0)
