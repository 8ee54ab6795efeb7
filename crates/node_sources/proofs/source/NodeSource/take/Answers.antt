use Rattle.std.proofs.Common.{◌∙◌, sym, subst}
use Rattle.std.specs.Prelude.{IfSome}
use Rattle.search_rounds.specs.declared.round.WaitingNode.{WaitingNode}
use Rattle.node_sources.specs.Source.{SourceState}
use Rattle.node_sources.specs.Steps.{Takes}
use Rattle.node_sources.proofs.Takings.{with_deque, pop-took, none-popped}
use Rattle.node_sources.proofs.source.NodeSource.take.Goals as goal

pub returns-in-Some-clause-taken : goal.returns-in-Some-clause-taken
returns-in-Some-clause-taken c =
    let s : SourceState = record { number = c.self.inside.number; deque = c.self.inside.deque; list = c.self.inside.list.items; reaches = c.self.inside.reaches.items } in
    let d = c.pop.new.self in
    let e = c.in-Some.ensures in
    subst (λ (y : SourceState). Takes y c.of_deque.result (with_deque d s)) c.self.view_is
    (subst (λ (w : WaitingNode). Takes s w (with_deque d s)) (sym c.of_deque.ensures) (pop-took s d c.in-Some.node e.deque e.popped).takes)

pub returns-in-None-clause-taken : goal.returns-in-None-clause-taken
returns-in-None-clause-taken c =
    let s : SourceState = record { number = c.self.inside.number; deque = c.self.inside.deque; list = c.self.inside.list.items; reaches = c.self.inside.reaches.items } in
    let e = c.in-None.ensures in
    subst (λ (y : SourceState). IfSome c.take_listed.result (λ w. Takes y w c.take_listed.new.self)) (none-popped s c.pop.new.self e.deque e.kept ∙ c.self.view_is) c.take_listed.ensures.taken
