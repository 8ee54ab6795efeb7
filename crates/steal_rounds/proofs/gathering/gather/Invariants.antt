use Rattle.std.proofs.Common.{◌≡◌, ◌++◌, [], None, length, map, List}
use Rattle.std.specs.Prelude.{IfSome}
use Rattle.std.specs.VecDeque.{deque_len}
use Rattle.search_log.specs.Weights.{Each}
use Rattle.steal_rounds.specs.declared.gathering.Published.{Published}
use Rattle.steal_rounds.specs.Lists.{new_part}
use Rattle.steal_rounds.specs.Whole.{whole_state, IsShort, IsOfTable, IsSound, joined_views, source_of, all_cited, ArePublishedBy, best_plan}
use Rattle.steal_rounds.proofs.JoinedMembers.{joined_parts}
use Rattle.steal_rounds.proofs.gathering.gather.Given as goal

abbrev pub invariant-loop-member : goal.invariant-loop-member
invariant-loop-member l = record {
  table : l.first.table ≡ l.words;
  passes : Each (IsOfTable l.words) l.members.items;
  plans : Each (λ m. IsSound m → IfSome m.worker.plan (IsShort l.project)) l.members.items;
  view : joined_views l.first.view l.members.items ≡ joined_views l.initial.first.view l.initial.members.items;
  sound : Each IsSound l.members.items → Each IsSound l.initial.members.items;
  short : IfSome l.whole.plan (IsShort l.project);
  lists : joined_parts l.starts.items (whole_state l.whole) l.members.items ≡ joined_parts l.starts.items (new_part []) l.initial.members.items;
  cited : l.whole.cited.items ++ all_cited l.members.items ≡ all_cited l.initial.members.items;
  published : (ps : List Published) → ArePublishedBy (length l.whole.made.items) l.members.items ps → ArePublishedBy 0 l.initial.members.items (l.whole.published.items ++ ps);
  sources : l.sources.items ++ map source_of l.members.items ≡ map source_of l.initial.members.items;
  plan : best_plan l.project l.whole.plan l.members.items ≡ best_plan l.project None l.initial.members.items;
}

abbrev pub decreases-loop-member : goal.decreases-loop-member
decreases-loop-member l = deque_len l.members
