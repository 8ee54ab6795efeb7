use Rattle.project_net.specs.Feasible.{IsPlaced}
use Rattle.plan_search.specs.Tools.{AreFor}
use Rattle.plan_search.proofs.tries.run_tries.Given as goal

abbrev pub invariant-loop-number : goal.invariant-loop-number
invariant-loop-number l = record {
  kept : IsPlaced l.project l.kept;
  made : IsPlaced l.project l.made;
  tools : AreFor l.project l.tools;
}
