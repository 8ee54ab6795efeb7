use Rattle.std.proofs.Common.{◌≡◌, ◌++◌, ◌+◌, vec_len, List, All, Global}
use Rattle.std.specs.declared.vec.Vec.{Vec}
use Rattle.std.specs.VecDeque.{deque_len}
use Rattle.precedence_tree.specs.Node.{StandsFor}
use Rattle.search_log.specs.Weights.{Each}
use Rattle.search_rounds.specs.declared.round.WaitingNode.{WaitingNode}
use Rattle.node_sources.proofs.NewSeats.{AreLone}
use Rattle.node_sources.proofs.seating.lone_sources.Given as goal

abbrev pub invariant-loop-nodes : goal.invariant-loop-nodes
invariant-loop-nodes l = record {
  room : vec_len l.sources + deque_len l.dealt ≡ vec_len l.fn.dealt;
  done : List (Vec WaitingNode Global);
  all : l.fn.dealt.items ≡ done ++ l.dealt.items;
  lone : AreLone l.project 1 done l.sources.items;
  nodes : Each (λ list. All (λ w. StandsFor l.project w.node) list.items) l.dealt.items;
}

abbrev pub decreases-loop-nodes : goal.decreases-loop-nodes
decreases-loop-nodes l = deque_len l.dealt
