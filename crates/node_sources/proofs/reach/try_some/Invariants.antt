use Rattle.std.proofs.Common.{◌≡◌}
use Rattle.node_sources.proofs.reach.try_some.Given as goal

abbrev pub invariant-loop : goal.invariant-loop
invariant-loop l = l.reach ≡ l.initial.reach
