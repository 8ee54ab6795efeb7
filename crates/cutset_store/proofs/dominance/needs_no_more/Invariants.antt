use Rattle.std.proofs.Common.{ℕ, ◌-◌, ◌≤◌, ◌<◌}
use Rattle.std.specs.Prelude.{slice_index}
use Rattle.cutset_store.proofs.dominance.needs_no_more.Given as goal

abbrev pub invariant-loop-resource : goal.invariant-loop-resource
invariant-loop-resource l = (r : ℕ) → 1 ≤ r → r < l.resource → slice_index l.used (r - 1) ≤ slice_index l.other (r - 1)
