use Rattle.std.proofs.Common.{◌≡◌, ◌++◌, map, take}
use Rattle.search_rounds.proofs.going.extend.Given as goal

abbrev pub invariant-loop-new : goal.invariant-loop-new
invariant-loop-new l = record {
  rows : l.table.rows ≡ l.initial.table.rows ++ map (λ n. n.row) (take l.new-index l.grown);
  origins : l.table.origins ≡ l.initial.table.origins ++ map (λ n. n.origin) (take l.new-index l.grown);
}
