use Rattle.log_checker.proofs.TextLines.{new-runs}
use Rattle.log_checker.proofs.checker.Checker.new.Goals as goal

pub invariant_of-result : goal.invariant_of-result
invariant_of-result c = c.new-2.ensures.ready c.args.project.now

pub returns-clause-stands : goal.returns-clause-stands
returns-clause-stands c = new-runs c.args.project.now c.new.result c.new-2.result c.new.ensures (c.new-2.ensures.holds c.args.project.now)
