use Rattle.std.proofs.Common.{rules, ◌≡◌, ◌∙◌, ◌+◌, ◌++◌, ◌∷◌, [], ℕ, sym, ap, subst, arith, List, length, append_assoc, append-nil, All, Global}
use Rattle.std.specs.declared.vec.Vec.{Vec}
use Rattle.precedence_tree.specs.Node.{StandsFor}
use Rattle.search_log.specs.Weights.{Each}
use Rattle.search_rounds.specs.declared.round.WaitingNode.{WaitingNode}
use Rattle.node_sources.specs.Source.{SourceState}
use Rattle.node_sources.proofs.Nodes.{none-left}
use Rattle.node_sources.proofs.NewSeats.{AreLone, one-more_lone, lone-new}
use Rattle.node_sources.proofs.NewReaches.{lone-alone}
use Rattle.node_sources.proofs.seating.lone_sources.Goals as goal

pub loop-nodes-preserved : goal.loop-nodes-preserved
loop-nodes-preserved c =
    let v = c.loop-nodes.invariant in
    let list : Vec WaitingNode Global = c.in-Some.nodes in
    let rest = c.pop_front.new.self.items in
    let cons = c.in-Some.ensures.items in
    let many : c.len-in-Some.result ≡ length c.loop-nodes.sources.items = search rules in
    let q : ℕ = c.len-in-Some.result + 1 in
    record {
      room = let a = c.in_ok-push.ensures.len in let b = c.in-Some.ensures.len in let r = v.room in omega arith;
      done = v.done ++ list ∷ [];
      all = v.all ∙ (ap (λ (xs : List (Vec WaitingNode Global)). v.done ++ xs) cons ∙ sym (append_assoc v.done (list ∷ []) rest));
      lone = subst (λ (ss : List SourceState). AreLone c.args.project.now 1 (v.done ++ list ∷ []) ss) (sym c.in_ok-push.ensures.items)
          (one-more_lone c.args.project.now 1 q v.done c.loop-nodes.sources.items list c.in_ok-source.source v.lone (omega arith) c.in_ok-source.ensures);
      nodes = (subst (Each (λ (xs : Vec WaitingNode Global). All (λ w. StandsFor c.args.project.now w.node) xs.items)) cons v.nodes).1;
    }

pub returns-clause-new : goal.returns-clause-new
returns-clause-new c =
    let v = c.loop-nodes.invariant in
    let none = none-left c.loop-nodes.dealt.items c.pop_front.new.self.items c.in_default.ensures.items c.in_default.ensures.rest in
    let done : v.done ≡ c.args.dealt.items = sym (v.all ∙ (ap (λ (xs : List (Vec WaitingNode Global)). v.done ++ xs) none ∙ append-nil v.done)) in
    lone-new c.args.project.now c.args.dealt.items c.loop-nodes.sources.items (subst (λ (xs : List (Vec WaitingNode Global)). AreLone c.args.project.now 1 xs c.loop-nodes.sources.items) done v.lone)

pub returns-clause-alone : goal.returns-clause-alone
returns-clause-alone c =
    let v = c.loop-nodes.invariant in
    let none = none-left c.loop-nodes.dealt.items c.pop_front.new.self.items c.in_default.ensures.items c.in_default.ensures.rest in
    let done : v.done ≡ c.args.dealt.items = sym (v.all ∙ (ap (λ (xs : List (Vec WaitingNode Global)). v.done ++ xs) none ∙ append-nil v.done)) in
    lone-alone c.args.project.now 1 c.args.dealt.items c.loop-nodes.sources.items (subst (λ (xs : List (Vec WaitingNode Global)). AreLone c.args.project.now 1 xs c.loop-nodes.sources.items) done v.lone)
