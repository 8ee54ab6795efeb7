use Rattle.std.proofs.Common.{◌≡◌, ℕ, ◌+◌, ◌-◌, arith, subst}
use Rattle.std.specs.Prelude.{Contains}
use Rattle.rcpsp_model.specs.Project.{job_count, Before}
use Rattle.window_refuter.specs.declared.step.BoundStep.TheVariants.{Tail}
use Rattle.window_refuter.proofs.Extended.{extends-then}
use Rattle.window_refuter.proofs.candidates.push_steps_of.Goals as goal

pub returns-clause-extends : goal.returns-clause-extends
returns-clause-extends c =
    let P = c.args.project.now in
    extends-then P _ _ _ c.in_ok-push_step.ensures.extends (extends-then P _ _ _ c.in_ok-push_step-2.ensures.extends c.in_ok-push_conflict.ensures.extends)

pub returns-clause-has : goal.returns-clause-has
returns-clause-has c =
    let P = c.args.project.now in
    let first = c.args.first in
    let second = c.args.second in
    let last : c.jobs.result - first + 1 ≡ job_count P + 1 - first = (let value = c.jobs.ensures.value in let high = c.requires.1 in omega arith) in
    record {
      head = λ before. c.in_ok-push_conflict.ensures.extends.kept _ (c.in_ok-push_step-2.ensures.extends.kept _ (c.in_ok-push_step.ensures.has before));
      tail = λ before. c.in_ok-push_conflict.ensures.extends.kept _
          (subst (λ (n : ℕ). Before P second n → Contains c.push_step-2.new.steps.items (Tail second n)) last c.in_ok-push_step-2.ensures.has before);
      conflict = c.in_ok-push_conflict.ensures.has;
    }
