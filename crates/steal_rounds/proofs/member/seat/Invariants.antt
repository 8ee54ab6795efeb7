use Rattle.std.proofs.Common.{◌≡◌, ◌++◌, length, vec_len, List}
use Rattle.std.specs.VecDeque.{deque_len}
use Rattle.node_sources.specs.Source.{SourceState}
use Rattle.steal_rounds.specs.Members.{with_workers, AreSeated}
use Rattle.steal_rounds.proofs.member.seat.Given as goal

abbrev pub invariant-loop-source : goal.invariant-loop-source
invariant-loop-source l = record {
  table : l.first.table ≡ l.words;
  view : l.first.view ≡ with_workers (vec_len l.members) l.initial.first.view;
  done : List SourceState;
  all : l.initial.sources.items ≡ done ++ l.sources.items;
  seated : AreSeated l.words l.initial.first.view 1 done l.members.items;
  many : length done ≡ vec_len l.members;
}

abbrev pub decreases-loop-source : goal.decreases-loop-source
decreases-loop-source l = deque_len l.sources
