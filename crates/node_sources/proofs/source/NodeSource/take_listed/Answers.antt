use Rattle.std.proofs.Common.{subst}
use Rattle.node_sources.specs.Source.{SourceState}
use Rattle.node_sources.specs.Seats.{Stays}
use Rattle.node_sources.proofs.Takings.{with_list, first-took}
use Rattle.node_sources.proofs.source.NodeSource.take_listed.Goals as goal

pub returns-in-Some-clause-stays : goal.returns-in-Some-clause-stays
returns-in-Some-clause-stays c =
    let s : SourceState = record { number = c.self.inside.number; deque = c.self.inside.deque; list = c.self.inside.list.items; reaches = c.self.inside.reaches.items } in
    let rest = c.pop_front.new.self.items in
    subst (λ (x : SourceState). Stays x (with_list rest s)) c.self.view_is (first-took s c.in-Some.node rest c.in-Some.ensures.items).stays
