use Rattle.std.proofs.Common.{◌≡◌, ℕ, ◌<◌}
use Rattle.window_refuter.specs.Steps.{IsConflict}
use Rattle.window_refuter.proofs.candidates.push_conflict.Given as goal

abbrev pub invariant-loop-resource : goal.invariant-loop-resource
invariant-loop-resource l = record {
  kept : l.steps.items ≡ l.initial.steps.items;
  none : (k : ℕ) → k < l.resource → IsConflict l.project l.first l.second k → ⊥;
}
