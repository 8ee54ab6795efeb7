use Rattle.serial_scheme.specs.Rules.{weight_of}
use Rattle.serial_scheme.proofs.ModeSteps.{BestBelow}
use Rattle.serial_scheme.proofs.mode_rule.mode_of.Given as goal

abbrev pub invariant-loop-mode : goal.invariant-loop-mode
invariant-loop-mode l = BestBelow l.project l.job (weight_of l.rule l.project l.job) l.mode l.best
