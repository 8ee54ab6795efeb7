use Rattle.project_net.proofs.StretchSteps.{HasStretches}
use Rattle.project_net.proofs.stretches.stretches_of.Given as goal

abbrev pub invariant-loop-row : goal.invariant-loop-row
invariant-loop-row l = HasStretches l.network l.resource l.row-index l.at l.stretches.items
