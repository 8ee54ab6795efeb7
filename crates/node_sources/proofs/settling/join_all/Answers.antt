use Rattle.std.proofs.Common.{◌∙◌, ap, subst, arith, List}
use Rattle.search_log.specs.Weights.{total}
use Rattle.search_log.proofs.Sums.{total-append}
use Rattle.node_sources.specs.declared.reach.Reach.{Reach}
use Rattle.node_sources.specs.Source.{stolen}
use Rattle.node_sources.specs.Joins.{AreServed}
use Rattle.node_sources.proofs.Nodes.{none-left}
use Rattle.node_sources.proofs.Joins.{leads, served-still, accepted-still, popped-more, all-passes}
use Rattle.node_sources.proofs.settling.join_all.Goals as goal

pub join-requires-clause-deque : goal.join-requires-clause-deque
join-requires-clause-deque c = leads c.in-Some.reach c.pop_front.new.self.items c.loop-reach.deques (subst (λ (rs : List Reach). AreServed rs c.loop-reach.deques) c.in-Some.ensures.items c.loop-reach.invariant.served)

pub loop-reach-preserved : goal.loop-reach-preserved
loop-reach-preserved c =
    let v = c.loop-reach.invariant in
    let r : Reach = c.in-Some.reach in
    let rest : List Reach = c.pop_front.new.self.items in
    let cons = c.in-Some.ensures.items in
    let served = subst (λ (rs : List Reach). AreServed rs c.loop-reach.deques) cons v.served in
    let joined = c.join.ensures in
    record {
      served = served-still r rest c.loop-reach.deques c.join.new.deques served joined;
      accepted = accepted-still r c.loop-reach.deques c.join.new.deques joined ∙ v.accepted;
      taken = λ weight.
          let a = v.taken weight in
          let b = popped-more weight r rest c.loop-reach.deques c.join.new.deques served joined in
          let d = ap (λ (rs : List Reach). total weight (stolen rs)) cons in
          let e = total-append weight r.thief.view.taken (stolen rest) in
          omega arith;
    }

pub returns : goal.returns
returns c =
    let v = c.loop-reach.invariant in
    let none = none-left c.loop-reach.rest.items c.pop_front.new.self.items c.in_default.ensures.items c.in_default.ensures.rest in
    record {
      passes = all-passes c.loop-reach.deques (subst (λ (rs : List Reach). AreServed rs c.loop-reach.deques) none v.served);
      accepted = v.accepted;
      taken = λ weight. let a = v.taken weight in let b = ap (λ (rs : List Reach). total weight (stolen rs)) none in omega arith;
    }
