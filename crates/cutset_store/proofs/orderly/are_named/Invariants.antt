use Rattle.std.proofs.Common.{take}
use Rattle.std.specs.Prelude.{All}
use Rattle.precedence_tree.specs.Active.{IsNamed}
use Rattle.cutset_store.proofs.orderly.are_named.Given as goal

abbrev pub invariant-loop-place : goal.invariant-loop-place
invariant-loop-place l = All (IsNamed l.project) (take l.place l.active)
