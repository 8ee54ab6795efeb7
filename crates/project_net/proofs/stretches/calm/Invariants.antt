use Rattle.std.proofs.Common.{◌≡◌, max, take}
use Rattle.std.specs.Prelude.{fold}
use Rattle.project_net.proofs.stretches.calm.Given as goal

abbrev pub invariant-loop-row : goal.invariant-loop-row
invariant-loop-row l = l.calm ≡ fold (λ greatest row. max greatest row.until) 0 (take l.row-index l.network.calendar)
