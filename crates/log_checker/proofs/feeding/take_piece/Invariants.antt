use Rattle.std.proofs.Common.{ℕ, ◌-◌, ◌≤◌, List, ◌++◌, length, take}
use Rattle.log_checker.specs.Course.{IsReady}
use Rattle.log_checker.specs.Checker.{Runs}
use Rattle.log_checker.proofs.feeding.take_piece.Given as goal

-- the bytes before the rest of the piece break no rule
abbrev pub invariant-loop-at : goal.invariant-loop-at
invariant-loop-at l = record {
  within : l.at ≤ length l.piece;
  ready : IsReady l.project l.course;
  runs : (bytes : List ℕ) → Runs l.project l.initial.reader l.initial.number l.initial.course bytes → Runs l.project l.reader l.number l.course (bytes ++ take l.at l.piece);
}

abbrev pub decreases-loop-at : goal.decreases-loop-at
decreases-loop-at l = length l.piece - l.at
