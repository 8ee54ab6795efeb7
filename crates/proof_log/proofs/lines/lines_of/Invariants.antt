use Rattle.std.proofs.Common.{◌≡◌, ◌++◌, map, drop, flat_map}
use Rattle.proof_log.specs.Lines.{lines_left, lines_in}
use Rattle.proof_log.proofs.lines.lines_of.Given as goal

abbrev pub invariant-loop-piece : goal.invariant-loop-piece
invariant-loop-piece l =
    map (λ line. line.items) l.lines.items ++ lines_left l.reader (flat_map (λ piece. piece.items) (drop l.piece-index l.pieces)) ≡ lines_in (flat_map (λ piece. piece.items) l.pieces)
