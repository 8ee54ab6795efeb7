use Rattle.std.proofs.Common.{◌≡◌, ◌∙◌, sym, ap, subst, arith, List, length, map}
use Rattle.std.proofs.lemmas.List.{with_items_is}
use Rattle.search_rounds.specs.declared.round.WaitingNode.{WaitingNode}
use Rattle.node_deques.specs.Handles.{HandleState}
use Rattle.node_sources.specs.declared.reach.Reach.{Reach}
use Rattle.node_sources.specs.declared.settling.Apart.{Apart}
use Rattle.node_sources.specs.Source.{SourceState}
use Rattle.node_sources.specs.Settled.{IsSettled}
use Rattle.node_sources.specs.Joins.{AreServed, AreJoined, IsLeftOf}
use Rattle.node_sources.proofs.Joins.{served, settles}
use Rattle.node_sources.proofs.settling.settle.Goals as goal

pub join_all-requires : goal.join_all-requires
join_all-requires c =
    let ss : List SourceState = c.args.sources.items in
    let p = c.in_ok-deques.ensures in
    subst (λ (ds : List HandleState). AreServed c.in_ok-deques.field-0.reaches.items ds) (sym (c.deref_mut.ensures.value ∙ p.deques))
    (subst (λ (rs : List Reach). AreServed rs (map (λ s. s.deque) ss)) (sym p.reaches) (served ss c.requires))

pub returns : goal.returns
returns c =
    let ss : List SourceState = c.args.sources.items in
    let apart : Apart = c.in_ok-deques.field-0 in
    let p = c.in_ok-deques.ensures in
    let after : List HandleState = c.join_all.new.deques in
    let rest : List WaitingNode = c.in_ok-rest.rest.items in
    let long : length after ≡ apart.deques.len = let a = c.join_all.auto.deques in let b = ap length c.deref_mut.ensures.value in let e = apart.deques.ok.0 in omega arith in
    let left : IsLeftOf after rest = subst (λ (ds : List HandleState). IsLeftOf ds rest) (with_items_is apart.deques after long) c.in_ok-rest.ensures in
    let joined : AreJoined apart.reaches.items (map (λ s. s.deque) ss) after = subst (λ (ds : List HandleState). AreJoined apart.reaches.items ds after) (c.deref_mut.ensures.value ∙ p.deques) c.join_all.ensures in
    subst (λ (ws : List WaitingNode). IsSettled ss (record { lists = apart.lists; rest = ws })) (sym c.from_vec.ensures) (settles ss apart after rest p joined left)
