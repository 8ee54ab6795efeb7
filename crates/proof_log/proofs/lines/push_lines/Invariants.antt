use Rattle.std.proofs.Common.{◌≡◌, ◌≤◌, ◌-◌, ◌++◌, ℕ, List, map, drop, length}
use Rattle.proof_log.specs.Lines.{lines_left}
use Rattle.proof_log.proofs.lines.push_lines.Given as goal

abbrev pub invariant-loop-lines : goal.invariant-loop-lines
invariant-loop-lines l = record {
  within : l.at ≤ length l.piece;
  lines : (more : List ℕ) → map (λ line. line.items) l.lines.items ++ lines_left l.reader (drop l.at l.piece ++ more) ≡ map (λ line. line.items) l.initial.lines.items ++ lines_left l.initial.reader (l.piece ++ more);
}

abbrev pub decreases-loop-lines : goal.decreases-loop-lines
decreases-loop-lines l = length l.piece - l.at
