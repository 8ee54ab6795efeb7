use Rattle.std.proofs.Common.{◌≡◌, ℕ, ◌+◌, ◌<◌, vec_len, All}
use Rattle.std.specs.Prelude.{Contains}
use Rattle.std.specs.VecDeque.{deque_len}
use Rattle.search_log.specs.Weights.{total}
use Rattle.search_rounds.specs.declared.round.WaitingNode.{WaitingNode}
use Rattle.steal_rounds.specs.Dealt.{all_dealt}
use Rattle.steal_rounds.proofs.dealing.deal.Given as goal

abbrev pub invariant-loop-node : goal.invariant-loop-node
invariant-loop-node l = record {
  len : vec_len l.lists ≡ l.count;
  turn : l.turn < l.count;
  weighs : (h : WaitingNode → ℕ) → total h (all_dealt l.lists.items) + total h l.rest.items ≡ total h l.fn.frontier;
  dealt : All (Contains l.fn.frontier) (all_dealt l.lists.items);
  rest : All (Contains l.fn.frontier) l.rest.items;
}

abbrev pub decreases-loop-node : goal.decreases-loop-node
decreases-loop-node l = deque_len l.rest
