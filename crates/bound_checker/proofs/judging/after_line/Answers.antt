use Rattle.std.proofs.Common.{subst}
use Rattle.bound_checker.specs.declared.stage.Stage.{Stage}
use Rattle.bound_checker.specs.Stages.{IsAt}
use Rattle.bound_checker.proofs.NextLines.{begin-step, begin-none}
use Rattle.bound_checker.proofs.judging.after_line.Goals as goal

pub returns-in_default-line : goal.returns-in_default-line
returns-in_default-line c = record {
  next = λ lines at b.
      let own = begin-step c.args.project.now c.args.windows.now lines c.args.line (subst (λ (s : Stage). IsAt c.args.project.now s c.args.windows.now lines) c.in-Step.is at) b in
      c.in_default-line.not-Step own.0 own.1;
  size = c.requires.size;
}

pub returns-in-Ended-clause-next : goal.returns-in-Ended-clause-next
returns-in-Ended-clause-next c lines at b =
    begin-none c.args.project.now c.in-Ended.field-0 lines c.args.line (subst (λ (s : Stage). IsAt c.args.project.now s c.args.windows.now lines) c.in-Ended.is at) b
