use Rattle.project_net.specs.Causes.{mode_place, AreFirstCauses}
use Rattle.project_net.proofs.causes.push_causes.Given as goal

abbrev pub invariant-loop-mode : goal.invariant-loop-mode
invariant-loop-mode l = AreFirstCauses l.network (mode_place l.network l.job l.mode) l.causes.items
