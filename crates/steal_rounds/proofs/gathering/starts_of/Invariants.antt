use Rattle.std.proofs.Common.{◌≡◌, ◌++◌, map, drop}
use Rattle.round_shares.specs.Crew.{starts_from}
use Rattle.steal_rounds.specs.Whole.{worked}
use Rattle.steal_rounds.proofs.gathering.starts_of.Given as goal

abbrev pub invariant-loop-member : goal.invariant-loop-member
invariant-loop-member l = l.starts.items ++ starts_from l.next (map worked (drop l.member-index l.members)) ≡ starts_from l.table (map worked l.members)
