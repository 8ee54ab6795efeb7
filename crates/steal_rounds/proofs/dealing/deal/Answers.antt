use Rattle.std.proofs.Common.{◌≡◌, ◌∙◌, sym, ap, subst, arith, All}
use Rattle.std.specs.Prelude.{Contains}
use Rattle.std.proofs.lemmas.List.Elements.{All-nil, All-head, All-tail}
use Rattle.rcpsp_model.proofs.Lists.{All-from_In, Contains-from_In}
use Rattle.search_log.specs.Weights.{total}
use Rattle.steal_rounds.specs.Dealt.{all_dealt}
use Rattle.steal_rounds.proofs.DealtNodes.{nothing-weighs, still-among}
use Rattle.steal_rounds.proofs.dealing.deal.Goals as goal

pub loop-node-init : goal.loop-node-init
loop-node-init c =
    let none = nothing-weighs (all_dealt c.in_ok-lists.lists.items) c.in_ok-lists.ensures.none in
    let rest : c.from-rest.result.items ≡ c.args.frontier = c.from-rest.ensures.0 ∙ c.into_vec.ensures in
    record {
      len = c.in_ok-lists.ensures.len;
      turn = c.requires;
      weighs = λ h. let a = ap (total h) none in let b = ap (total h) rest in omega arith;
      dealt = subst (All (Contains c.args.frontier)) (sym none) (All-nil (Contains c.args.frontier));
      rest = subst (All (Contains c.args.frontier)) (sym rest) (All-from_In (Contains c.args.frontier) c.args.frontier (λ x i. Contains-from_In c.args.frontier x i));
    }

pub loop-node-preserved : goal.loop-node-preserved
loop-node-preserved c =
    let v = c.loop-node.invariant in
    let cons = c.in-Some.ensures.items in
    let rest = subst (All (Contains c.args.frontier)) cons v.rest in
    let adds = c.in_ok-add.ensures.adds in
    record {
      len = c.in_ok-add.ensures.len ∙ v.len;
      turn = c.next_turn-turn.ensures;
      weighs = λ h. let a = adds.weighs h in let b = v.weighs h in let d = ap (total h) cons in omega arith;
      dealt = still-among c.args.frontier (all_dealt c.loop-node.lists.items) (all_dealt c.add.new.lists.items) c.in-Some.node adds v.dealt (All-head (Contains c.args.frontier) c.in-Some.node c.pop_front.new.self.items rest);
      rest = All-tail (Contains c.args.frontier) c.in-Some.node c.pop_front.new.self.items rest;
    }
