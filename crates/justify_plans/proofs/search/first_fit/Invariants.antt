use Rattle.std.proofs.Common.{◌-◌}
use Rattle.justify_plans.specs.Placings.{mode_in, others}
use Rattle.justify_plans.proofs.Spans.{IsEarlySpan}
use Rattle.justify_plans.proofs.search.first_fit.Given as goal

abbrev pub invariant-spans : goal.invariant-spans
invariant-spans l = IsEarlySpan l.project (others l.places l.job) l.job (mode_in l.places l.job) l.from l.start l.end

abbrev pub decreases-spans : goal.decreases-spans
decreases-spans l = l.until - l.end
