use Rattle.std.proofs.Common.{◌≡◌, vec_len, length}
use Rattle.steal_rounds.specs.Dealt.{all_dealt}
use Rattle.steal_rounds.proofs.dealing.empty_lists.Given as goal

abbrev pub invariant-loop : goal.invariant-loop
invariant-loop l = (vec_len l.lists ≡ l.counter) × (length (all_dealt l.lists.items) ≡ 0)
