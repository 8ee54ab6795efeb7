use Rattle.std.proofs.Common.{◌+◌, arith, sym, subst}
use Rattle.std.proofs.lemmas.Bool.{both_ways}
use Rattle.rcpsp_model.specs.Project.{IsMode}
use Rattle.serial_scheme.specs.Rules.{weight_of}
use Rattle.serial_scheme.proofs.ModeSteps.{BestBelow, best-more, best-skip, mode-from_best, no_mode-from_best}
use Rattle.serial_scheme.proofs.mode_rule.mode_of.Goals as goal
use Rattle.serial_scheme.proofs.mode_rule.mode_of.Goals.{then-executable, else-executable}

pub loop-mode-preserved : goal.loop-mode-preserved
loop-mode-preserved c =
    let P = c.args.project.now in let j = c.args.job in let n = c.loop-mode.mode in
    let weight = weight_of c.args.rule P j in
    let mode : IsMode P j n = (c.loop-mode.auto.mode, let t = c.loop-mode-test.true in let e = c.modes-mode-end.ensures.value in omega arith) in
    elim c.if-executable.branch [
      | then-executable w ↦ subst (BestBelow P j weight (n + 1)) (sym w.best-is)
          (best-more P j weight n c.loop-mode.best w.lighter-best.result mode (c.executable.ensures.0 w.if-executable.true) w.lighter-best.ensures c.loop-mode.invariant)
      | else-executable w ↦ subst (BestBelow P j weight (n + 1)) (sym w.best-is)
          (best-skip P j weight n c.loop-mode.best (λ x. both_ways _ w.if-executable.false (c.executable.ensures.1 x)) c.loop-mode.invariant)
    ]

pub returns-clause-some : goal.returns-clause-some
returns-clause-some c =
    mode-from_best c.args.rule c.args.project.now c.args.job c.loop-mode.mode c.loop-mode.best
    (λ m r. let f = c.loop-mode-test.false in let e = c.modes-mode-end.ensures.value in let high = r.1 in omega arith) c.loop-mode.invariant

pub returns-clause-none : goal.returns-clause-none
returns-clause-none c =
    no_mode-from_best c.args.rule c.args.project.now c.args.job c.loop-mode.mode c.loop-mode.best
    (λ m r. let f = c.loop-mode-test.false in let e = c.modes-mode-end.ensures.value in let high = r.1 in omega arith) c.loop-mode.invariant
