use Rattle.std.specs.Prelude.{All}
use Rattle.precedence_tree.specs.Base.{IsBaseOf}
use Rattle.plain_sums.proofs.tests.same_found.Given as goal

abbrev pub invariant-loop-place : goal.invariant-loop-place
invariant-loop-place g l = All (IsBaseOf l.project) l.index
