use Rattle.std.proofs.Common.{◌≡◌, ◌∙◌, sym, ap, subst, List, length}
use Rattle.std.proofs.lemmas.List.{with_items_is, length-set}
use Rattle.search_rounds.specs.declared.round.WaitingNode.{WaitingNode}
use Rattle.node_deques.specs.declared.node.DequeNode.{DequeNode}
use Rattle.node_sources.specs.declared.reach.Reach.{Reach}
use Rattle.node_sources.specs.Source.{SourceState}
use Rattle.node_sources.specs.Seats.{Stays}
use Rattle.node_sources.specs.Thefts.{Steals}
use Rattle.node_sources.specs.Steps.{Takes}
use Rattle.node_sources.proofs.Takings.{with_reaches, theft-took}
use Rattle.node_sources.proofs.source.NodeSource.steal.Goals as goal

pub returns-clause-stays : goal.returns-clause-stays
returns-clause-stays c =
    let s : SourceState = record { number = c.self.inside.number; deque = c.self.inside.deque; list = c.self.inside.list.items; reaches = c.self.inside.reaches.items } in
    let x : DequeNode = c.in_ok-node.node in
    let after : List Reach = c.steal.new.reaches in
    let steals : Steals s.reaches x after = subst (λ (rs : List Reach). Steals rs x after) c.deref_mut.ensures.value c.in_ok-node.ensures.stolen in
    let long : length after ≡ c.self.inside.reaches.len = ap length steals.others ∙ (length-set s.reaches steals.index steals.reach ∙ sym c.self.inside.reaches.ok.0) in
    subst (λ (rs : List Reach). Stays c.args.self.now (with_reaches rs s)) (sym (with_items_is c.self.inside.reaches after long))
    (subst (λ (y : SourceState). Stays y (with_reaches after s)) c.self.view_is (theft-took s after x steals).stays)

pub returns-clause-taken : goal.returns-clause-taken
returns-clause-taken c =
    let s : SourceState = record { number = c.self.inside.number; deque = c.self.inside.deque; list = c.self.inside.list.items; reaches = c.self.inside.reaches.items } in
    let x : DequeNode = c.in_ok-node.node in
    let after : List Reach = c.steal.new.reaches in
    let steals : Steals s.reaches x after = subst (λ (rs : List Reach). Steals rs x after) c.deref_mut.ensures.value c.in_ok-node.ensures.stolen in
    let long : length after ≡ c.self.inside.reaches.len = ap length steals.others ∙ (length-set s.reaches steals.index steals.reach ∙ sym c.self.inside.reaches.ok.0) in
    subst (λ (rs : List Reach). Takes c.args.self.now c.of_deque.result (with_reaches rs s)) (sym (with_items_is c.self.inside.reaches after long))
    (subst (λ (y : SourceState). Takes y c.of_deque.result (with_reaches after s)) c.self.view_is
    (subst (λ (w : WaitingNode). Takes s w (with_reaches after s)) (sym c.of_deque.ensures) (theft-took s after x steals).takes))
