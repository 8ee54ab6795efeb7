use Rattle.std.proofs.Common.{◌≡◌}
use Rattle.search_rounds.specs.Going.{Goes, work}
use Rattle.steal_rounds.proofs.searching.run.Given as goal

abbrev pub invariant-rounds : goal.invariant-rounds
invariant-rounds g l = record {
  goes : Goes l.project l.workers l.nodes l.going;
  first : l.going.first ≡ l.fn.best.end;
}

abbrev pub decreases-rounds : goal.decreases-rounds
decreases-rounds g l = work l.nodes l.going
