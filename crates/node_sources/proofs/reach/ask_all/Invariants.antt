use Rattle.std.proofs.Common.{◌≡◌}
use Rattle.node_sources.proofs.reach.ask_all.Given as goal

abbrev pub invariant-loop-index : goal.invariant-loop-index
invariant-loop-index l = l.reaches ≡ l.initial.reaches
