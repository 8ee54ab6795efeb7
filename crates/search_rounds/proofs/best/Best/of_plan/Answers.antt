use Rattle.std.proofs.Common.{◌≤◌, subst, List, Option, IfSome}
use Rattle.rcpsp_model.specs.declared.parts.Placing.{Placing}
use Rattle.rcpsp_model.specs.Schedule.{end_of, entries}
use Rattle.search_rounds.proofs.SoonEnds.{starts-soon}
use Rattle.search_rounds.proofs.best.Best.of_plan.Goals as goal

pub end-requires-clause-starts : goal.end-requires-clause-starts
end-requires-clause-starts c k d l =
    let soon = subst (λ (plan : Option (List Placing)). IfSome plan (λ s. end_of c.args.project.now (entries s) ≤ 1290000)) c.in-Some.is c.requires.soon in
    starts-soon c.args.project.now c.in-Some.plan k d soon l
