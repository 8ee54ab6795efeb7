use Rattle.std.proofs.Common.{◌≤◌, subst, IfSome}
use Rattle.rcpsp_model.specs.Schedule.{IsFeasible, end_of, entries}
use Rattle.justify_plans.proofs.Moved.{placed-self}
use Rattle.scheduler.proofs.planning.with_end.Goals as goal

pub end-duration-requires-clause-starts : goal.end-duration-requires-clause-starts
end-duration-requires-clause-starts c =
    let P = c.args.project.now in
    let feasible = subst (λ plan. IfSome plan (IsFeasible P)) c.in-Some.is c.requires.feasible in
    let soon = subst (λ plan. IfSome plan (λ s. end_of P (entries s) ≤ 1290000)) c.in-Some.is c.requires.soon in
    (placed-self P c.in-Some.places feasible soon).starts
