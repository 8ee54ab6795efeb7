use Rattle.std.proofs.Common.{◌≡◌}
use Rattle.node_sources.proofs.reach.steal.Given as goal

abbrev pub invariant-loop : goal.invariant-loop
invariant-loop l = l.reaches ≡ l.initial.reaches
