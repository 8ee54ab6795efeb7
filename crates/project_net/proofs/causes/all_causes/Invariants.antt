use Rattle.project_net.specs.Causes.{mode_count, AreFirstCauses}
use Rattle.project_net.proofs.causes.all_causes.Given as goal

abbrev pub invariant-loop-done : goal.invariant-loop-done
invariant-loop-done l = AreFirstCauses l.network (mode_count l.network l.done) l.causes.items
