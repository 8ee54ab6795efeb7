use Rattle.std.proofs.Common.{drop}
use Rattle.cutset_store.specs.Line.{AreInLine}
use Rattle.cutset_store.specs.Index.{fronts_of, places_in}
use Rattle.cutset_store.proofs.Indexed.{NoneBefore}
use Rattle.cutset_store.proofs.index.first_dominating.Given as goal

abbrev pub invariant-loop-at : goal.invariant-loop-at
invariant-loop-at l = AreInLine l.records l.width (drop l.at l.rows) l.needs l.active × NoneBefore l.project (fronts_of l.records) l.b.front (places_in l.rows) l.at
