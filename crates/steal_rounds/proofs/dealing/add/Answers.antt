use Rattle.std.proofs.Common.{rules, ◌∙◌, ap, ◌++◌, ◌∷◌, [], Global}
use Rattle.std.specs.declared.vec.Vec.{Vec}
use Rattle.search_rounds.specs.declared.round.WaitingNode.{WaitingNode}
use Rattle.steal_rounds.proofs.DealtNodes.{added}
use Rattle.steal_rounds.proofs.dealing.add.Goals as goal

pub returns-clause-adds : goal.returns-clause-adds
returns-clause-adds c = added c.args.lists.now.items c.args.turn c.index_mut.result.now c.push.new.self c.args.node (search rules) (c.in_ok-push.ensures.items ∙ ap (λ (v : Vec WaitingNode Global). v.items ++ c.args.node ∷ []) c.index_mut.ensures.value)
