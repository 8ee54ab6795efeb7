use Rattle.std.proofs.Common.{◌≡◌, ◌++◌, map}
use Rattle.search_rounds.proofs.going.keep.Given as goal

abbrev pub invariant-loop-one : goal.invariant-loop-one
invariant-loop-one l = record {
  index : l.records.index ≡ l.initial.records.index ++ map (λ m. m.known) l.yielded;
  places : l.records.places ≡ l.initial.records.places ++ map (λ m. m.place) l.yielded;
}
