use Rattle.std.proofs.Common.{◌≡◌, ◌≤◌, ◌-◌, length}
use Rattle.scheduler.specs.declared.feeding.TheConstants.{MOST_JUDGED}
use Rattle.scheduler.specs.Feeding.{HasTaken}
use Rattle.scheduler.proofs.feeding.feed_on.Given as goal

abbrev pub invariant-loop-taken : goal.invariant-loop-taken
invariant-loop-taken g l = record {
  piece : length l.piece ≡ length l.fn.piece;
  project : g.J.Judge.about l.judge ≡ g.J.Judge.about l.fn.judge;
  has : HasTaken (g.S.Shelf.texts l.fn.shelf) (g.J.Judge.stands l.judge) (g.S.Shelf.left l.fn.shelf) (g.S.Shelf.left l.shelf) l.taken;
  later : g.S.Shelf.faults l.fn.shelf ≤ g.S.Shelf.faults l.shelf;
  same : g.S.Shelf.texts l.shelf ≡ g.S.Shelf.texts l.fn.shelf;
}

abbrev pub decreases-loop-taken : goal.decreases-loop-taken
decreases-loop-taken g l = MOST_JUDGED - l.taken
