use Rattle.std.proofs.Common.{ℕ, ◌<◌}
use Rattle.rcpsp_model.specs.Project.{IsRenewable}
use Rattle.precedence_tree.specs.Starts.{FitsOn}
use Rattle.precedence_tree.proofs.breaks.next_try.Given as goal

-- the job fits on the resources so far
abbrev pub invariant-loop-resource : goal.invariant-loop-resource
invariant-loop-resource l = (k : ℕ) → IsRenewable l.project k → k < l.resource → FitsOn l.project l.base.active l.job l.mode k l.start
