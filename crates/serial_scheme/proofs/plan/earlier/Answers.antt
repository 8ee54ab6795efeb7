use Rattle.std.proofs.Common.{arith}
use Rattle.rcpsp_model.specs.Plan.{IsShortestMode, IsCheapestMode, IsPlanBy, HasNoPlanBy}
use Rattle.serial_scheme.proofs.PlanFacts.{plan-facts, some-case, none-case, first-both, second-both, first-alone, second-or_none}
use Rattle.serial_scheme.proofs.plan.earlier.Goals as goal

pub returns-in_default : goal.returns-in_default
returns-in_default c =
    let P = c.args.project.now in
    second-or_none P c.args.second (none-case (IsPlanBy P IsShortestMode) (HasNoPlanBy P IsShortestMode) c.args.first c.in_default.is c.requires.first) c.requires.second

pub returns-in_default-second : goal.returns-in_default-second
returns-in_default-second c =
    let P = c.args.project.now in
    first-alone P c.in-Some.first (some-case (IsPlanBy P IsShortestMode) (HasNoPlanBy P IsShortestMode) c.args.first c.in-Some.first c.in-Some.is c.requires.first)
    (none-case (IsPlanBy P IsCheapestMode) (HasNoPlanBy P IsCheapestMode) c.args.second c.in_default-second.is c.requires.second)

pub end-first_end-requires-clause-modes : goal.end-first_end-requires-clause-modes
end-first_end-requires-clause-modes c =
    let P = c.args.project.now in
    (plan-facts P c.known.ensures IsShortestMode c.in-Some.first (some-case (IsPlanBy P IsShortestMode) (HasNoPlanBy P IsShortestMode) c.args.first c.in-Some.first c.in-Some.is c.requires.first)).feasible.modes

pub end-first_end-requires-clause-starts : goal.end-first_end-requires-clause-starts
end-first_end-requires-clause-starts c =
    let P = c.args.project.now in
    (plan-facts P c.known.ensures IsShortestMode c.in-Some.first (some-case (IsPlanBy P IsShortestMode) (HasNoPlanBy P IsShortestMode) c.args.first c.in-Some.first c.in-Some.is c.requires.first)).starts

pub end-second_end-requires-clause-modes : goal.end-second_end-requires-clause-modes
end-second_end-requires-clause-modes c =
    let P = c.args.project.now in
    (plan-facts P c.known.ensures IsCheapestMode c.in-Some-second.second
    (some-case (IsPlanBy P IsCheapestMode) (HasNoPlanBy P IsCheapestMode) c.args.second c.in-Some-second.second c.in-Some-second.is c.requires.second)).feasible.modes

pub end-second_end-requires-clause-starts : goal.end-second_end-requires-clause-starts
end-second_end-requires-clause-starts c =
    let P = c.args.project.now in
    (plan-facts P c.known.ensures IsCheapestMode c.in-Some-second.second
    (some-case (IsPlanBy P IsCheapestMode) (HasNoPlanBy P IsCheapestMode) c.args.second c.in-Some-second.second c.in-Some-second.is c.requires.second)).starts

pub returns-then-second_end-first_end : goal.returns-then-second_end-first_end
returns-then-second_end-first_end c =
    let P = c.args.project.now in
    second-both P c.known.ensures.acyclic c.in-Some.first c.in-Some-second.second
    (some-case (IsPlanBy P IsShortestMode) (HasNoPlanBy P IsShortestMode) c.args.first c.in-Some.first c.in-Some.is c.requires.first)
    (some-case (IsPlanBy P IsCheapestMode) (HasNoPlanBy P IsCheapestMode) c.args.second c.in-Some-second.second c.in-Some-second.is c.requires.second)
    (let a = c.end-first_end.ensures.value in let b = c.end-second_end.ensures.value in let t = c.if-second_end-first_end.true in omega arith)

pub returns-else-second_end-first_end : goal.returns-else-second_end-first_end
returns-else-second_end-first_end c =
    let P = c.args.project.now in
    first-both P c.known.ensures.acyclic c.in-Some.first c.in-Some-second.second
    (some-case (IsPlanBy P IsShortestMode) (HasNoPlanBy P IsShortestMode) c.args.first c.in-Some.first c.in-Some.is c.requires.first)
    (some-case (IsPlanBy P IsCheapestMode) (HasNoPlanBy P IsCheapestMode) c.args.second c.in-Some-second.second c.in-Some-second.is c.requires.second)
    (let a = c.end-first_end.ensures.value in let b = c.end-second_end.ensures.value in let t = c.if-second_end-first_end.false in omega arith)
