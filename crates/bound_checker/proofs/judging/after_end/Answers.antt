use Rattle.bound_checker.proofs.NextLines.{begin-end}
use Rattle.bound_checker.proofs.judging.after_end.Goals as goal

pub returns-in_default : goal.returns-in_default
returns-in_default c P W lines at b = c.in_default.not-End (begin-end P c.args.bound lines c.args.line at b)
