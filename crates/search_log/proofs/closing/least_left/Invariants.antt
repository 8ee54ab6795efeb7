use Rattle.search_log.proofs.LeastOfLeft.{IsLeastBefore}
use Rattle.search_log.proofs.closing.least_left.Given as goal

abbrev pub invariant-loop-place : goal.invariant-loop-place
invariant-loop-place l = IsLeastBefore l.rows l.place l.least
