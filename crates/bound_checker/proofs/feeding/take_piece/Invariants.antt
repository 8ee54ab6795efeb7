use Rattle.std.proofs.Common.{ℕ, ◌-◌, ◌≤◌, List, ◌++◌, length, take}
use Rattle.bound_checker.specs.Checker.{IsReady, Runs}
use Rattle.bound_checker.proofs.feeding.take_piece.Given as goal

-- the lines before the rest of the piece may stand there
abbrev pub invariant-loop-at : goal.invariant-loop-at
invariant-loop-at l = record {
  within : l.at ≤ length l.piece;
  ready : IsReady l.project l.course;
  runs : (bytes : List ℕ) → Runs l.project l.initial.reader l.initial.course bytes → Runs l.project l.reader l.course (bytes ++ take l.at l.piece);
}

abbrev pub decreases-loop-at : goal.decreases-loop-at
decreases-loop-at l = length l.piece - l.at
