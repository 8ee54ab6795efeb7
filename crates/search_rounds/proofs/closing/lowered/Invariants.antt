use Rattle.std.proofs.Common.{◌≤◌, take, IfSome}
use Rattle.rcpsp_model.specs.Claim.{HasDuration}
use Rattle.search_rounds.specs.Closing.{IsLowered}
use Rattle.search_rounds.proofs.closing.lowered.Given as goal

abbrev pub invariant-loop-waiting : goal.invariant-loop-waiting
invariant-loop-waiting l = record {
  least : IsLowered l.project (take l.waiting-index l.left) l.fn.best.end l.least.end;
  plan : HasDuration l.project l.least.end l.least.plan;
  soon : IfSome l.least.end (λ end. end ≤ 1290000);
}
