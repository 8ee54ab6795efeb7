use Rattle.std.proofs.Common.{◌≡◌, ◌++◌, map}
use Rattle.std.specs.VecDeque.{deque_len}
use Rattle.node_sources.specs.Joins.{all_reaches}
use Rattle.node_sources.proofs.settling.take_apart.Given as goal

abbrev pub invariant-loop-source : goal.invariant-loop-source
invariant-loop-source l = record {
  deques : l.apart.deques.items ++ map (λ s. s.deque) l.rest.items ≡ map (λ s. s.deque) l.fn.sources.items;
  lists : l.apart.lists.items ++ map (λ s. s.list) l.rest.items ≡ map (λ s. s.list) l.fn.sources.items;
  reaches : l.apart.reaches.items ++ all_reaches l.rest.items ≡ all_reaches l.fn.sources.items;
}

abbrev pub decreases-loop-source : goal.decreases-loop-source
decreases-loop-source l = deque_len l.rest
