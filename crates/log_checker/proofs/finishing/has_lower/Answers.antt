use Rattle.log_checker.proofs.ServedLines.{lower-some, lower-none}
use Rattle.log_checker.proofs.finishing.has_lower.Goals as goal

pub returns-in-Some : goal.returns-in-Some
returns-in-Some c lines left = lower-some c.args.verdict lines c.args.least c.in-Limit.duration c.in-Some.least c.in-Limit.lower c.in-Limit.is c.in-Some.is left

pub returns-in-None : goal.returns-in-None
returns-in-None c lines left = lower-none c.args.verdict lines c.args.least c.in-Limit.duration c.in-Limit.lower c.in-Limit.is c.in-None.is left
