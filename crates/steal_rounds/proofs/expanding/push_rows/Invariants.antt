use Rattle.std.proofs.Common.{◌≡◌, ◌++◌, map, take}
use Rattle.steal_rounds.specs.Children.{new_row}
use Rattle.steal_rounds.proofs.expanding.push_rows.Given as goal

abbrev pub invariant-loop-child : goal.invariant-loop-child
invariant-loop-child l = l.grown.items ≡ l.initial.grown.items ++ map (new_row l.origin) (take l.child-index l.children)
