use Rattle.std.proofs.Common.{rules, ◌≡◌, List, length, sym, subst, Global}
use Rattle.std.specs.declared.vec.Vec.{Vec}
use Rattle.search_rounds.specs.declared.round.WaitingNode.{WaitingNode}
use Rattle.steal_rounds.specs.Dealt.{all_dealt}
use Rattle.steal_rounds.proofs.DealtNodes.{none-more}
use Rattle.steal_rounds.proofs.dealing.empty_lists.Goals as goal

pub loop-preserved : goal.loop-preserved
loop-preserved c = (
  search rules,
  subst (λ (lists : List (Vec WaitingNode Global)). length (all_dealt lists) ≡ 0) (sym c.in_ok-push.ensures.items) (none-more c.loop.lists.items c.new.result c.new.ensures.items c.loop.invariant.1),
)
