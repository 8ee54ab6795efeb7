use Rattle.std.proofs.Common.{◌-◌}
use Rattle.sched_base.proofs.Bits.{test-or}
use Rattle.sched_base.proofs.job_set.JobSet.union.Goals as goal

pub returns : goal.returns
returns c = λ i. test-or c.args.self.0 c.args.other.0 (i - 1)
