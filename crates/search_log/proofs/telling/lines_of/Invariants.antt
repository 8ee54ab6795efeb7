use Rattle.std.proofs.Common.{◌≡◌, map, take}
use Rattle.search_log.specs.Table.{row_at}
use Rattle.search_log.specs.Stands.{line_of}
use Rattle.search_log.proofs.telling.lines_of.Given as goal

abbrev pub invariant-loop-place : goal.invariant-loop-place
invariant-loop-place l = l.lines.items ≡ map (λ p. line_of l.numbers (row_at l.rows p)) (take l.place-index l.order)
