use Rattle.std.proofs.Common.{◌≡◌, ◌+◌, ◌++◌, map, take}
use Rattle.steal_rounds.proofs.gathering.add_live.Given as goal

abbrev pub invariant-loop-number : goal.invariant-loop-number
invariant-loop-number l = l.live.items ≡ l.initial.live.items ++ map (λ i. l.before + i) (take l.number-index l.more)
