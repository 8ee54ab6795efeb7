use Rattle.std.proofs.Common.{ℕ, ◌<◌}
use Rattle.rcpsp_model.specs.Bounds.{IsWorkBound}
use Rattle.search_rounds.proofs.closing.late_bound.Given as goal

abbrev pub invariant-loop-resource : goal.invariant-loop-resource
invariant-loop-resource l = (k w : ℕ) → k < l.resource → IsWorkBound l.project l.node.front k w → w < l.end
