use Rattle.std.proofs.Common.{List, subst, ◌∙◌}
use Rattle.window_refuter.specs.declared.step.BoundStep.{BoundStep}
use Rattle.rcpsp_model.specs.Project.{IsJob}
use Rattle.window_refuter.specs.Windows.{IsEmptyWindow}
use Rattle.window_refuter.specs.Propagation.{IsNarrowed, IsAtRest}
use Rattle.window_refuter.specs.Dues.{IsFullStep, NoneIsFull}
use Rattle.window_refuter.proofs.AtRest.{none-refutes, refuted-empty, refuted-full, at_some, at_none}
use Rattle.window_refuter.proofs.refuting.refute_windows.Goals as goal

pub returns-in-Some-clause-some : goal.returns-in-Some-clause-some
returns-in-Some-clause-some c =
    let P = c.args.project.now in
    let T = c.args.end in
    let new = c.propagate.new.windows in
    let found = at_some (λ j. IsJob P j × IsEmptyWindow P new j) c.in_ok-job.field-0 c.in-Some.job c.in-Some.is c.in_ok-job.ensures.some in
    refuted-empty P T c.args.windows.now new c.propagate.new.steps.items c.from_vec.result c.in-Some.job
    (subst (λ (ss : List BoundStep). IsNarrowed P T c.args.windows.now ss new c.propagate.new.steps.items) c.new-steps.ensures.items c.in_ok-job.ensures.narrowed)
    found.0 found.1 (c.from_vec.ensures ∙ c.in_ok-push-in-Some.ensures.items)

pub returns-in_ok-push-in-Some-2-clause-some : goal.returns-in_ok-push-in-Some-2-clause-some
returns-in_ok-push-in-Some-2-clause-some c =
    let P = c.args.project.now in
    let T = c.args.end in
    let new = c.propagate.new.windows in
    let rest = at_none (IsAtRest P c.args.tried.now new) c.in_ok-job.field-0 c.in-None.is c.in_ok-job.ensures.none in
    let full = at_some (IsFullStep P T new) c.in_ok-step.field-0 c.in-Some-2.step c.in-Some-2.is c.in_ok-step.ensures.some in
    refuted-full P T c.args.windows.now new c.propagate.new.steps.items c.from_vec-in-Some-2.result c.in-Some-2.step
    (subst (λ (ss : List BoundStep). IsNarrowed P T c.args.windows.now ss new c.propagate.new.steps.items) c.new-steps.ensures.items c.in_ok-job.ensures.narrowed)
    rest.none_empty full (c.from_vec-in-Some-2.ensures ∙ c.in_ok-push-in-Some-2.ensures.items)

pub returns-in-None-2-clause-none : goal.returns-in-None-2-clause-none
returns-in-None-2-clause-none c =
    let P = c.args.project.now in
    let T = c.args.end in
    let new = c.propagate.new.windows in
    let rest = at_none (IsAtRest P c.args.tried.now new) c.in_ok-job.field-0 c.in-None.is c.in_ok-job.ensures.none in
    let full = at_none (NoneIsFull P new) c.in_ok-step.field-0 c.in-None-2.is c.in_ok-step.ensures.none in
    none-refutes P T T c.args.tried.now new c.args.windows.now c.known.ensures.acyclic c.requires.tried (c.propagate.auto.windows ∙ c.requires.size) c.in_ok-job.ensures.within c.in_ok-job.ensures.narrowed.inside rest full
