use Rattle.std.proofs.Common.{◌≡◌, ◌≤◌, ◌-◌, ◌++◌, length, IsSome}
use Rattle.scheduler.proofs.reading.read_on.Given as goal

abbrev pub invariant-loop-text : goal.invariant-loop-text
invariant-loop-text g l = record {
  within : length l.text.items ≤ l.most;
  piece : 1 ≤ length l.piece;
  whole : IsSome (g.S.Shelf.texts l.fn.shelf) → l.text.items ++ g.S.Shelf.left l.shelf ≡ l.fn.text.items ++ g.S.Shelf.left l.fn.shelf;
  later : g.S.Shelf.faults l.fn.shelf ≤ g.S.Shelf.faults l.shelf;
  same : g.S.Shelf.texts l.shelf ≡ g.S.Shelf.texts l.fn.shelf;
}

abbrev pub decreases-loop-text : goal.decreases-loop-text
decreases-loop-text g l = l.most - length l.text.items
