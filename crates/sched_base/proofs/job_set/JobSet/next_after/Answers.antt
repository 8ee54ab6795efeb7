use Rattle.std.proofs.Common.{arith}
use Rattle.sched_base.proofs.SetBits.{none-past, none-above, next}
use Rattle.sched_base.proofs.job_set.JobSet.next_after.Goals as goal

pub returns-then-above-eq128-clause-none : goal.returns-then-above-eq128-clause-none
returns-then-above-eq128-clause-none c = none-past c.args.self c.args.above (omega arith) (omega arith)

pub returns-then-rest-eq0-clause-none : goal.returns-then-rest-eq0-clause-none
returns-then-rest-eq0-clause-none c = none-above c.args.self c.args.above c.if-rest-eq0.true

pub returns-clause-some : goal.returns-clause-some
returns-clause-some c = (next c.args.self c.args.above (omega arith) (omega arith)).next_one

pub returns-clause-high : goal.returns-clause-high
returns-clause-high c = (next c.args.self c.args.above (omega arith) (omega arith)).high
