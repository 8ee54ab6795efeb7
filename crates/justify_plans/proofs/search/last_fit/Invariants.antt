use Rattle.justify_plans.specs.Placings.{mode_in, others}
use Rattle.justify_plans.proofs.Spans.{IsLateSpan}
use Rattle.justify_plans.proofs.search.last_fit.Given as goal

abbrev pub invariant-spans : goal.invariant-spans
invariant-spans l = IsLateSpan l.project (others l.places l.job) l.job (mode_in l.places l.job) l.until l.begin l.finish

abbrev pub decreases-spans : goal.decreases-spans
decreases-spans l = l.begin
