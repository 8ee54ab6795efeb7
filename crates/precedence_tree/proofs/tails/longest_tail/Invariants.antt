use Rattle.std.proofs.Common.{◌≤◌}
use Rattle.precedence_tree.proofs.LongestTails.{LongestBut}
use Rattle.precedence_tree.proofs.tails.longest_tail.Given as goal

abbrev pub invariant-loop-rest : goal.invariant-loop-rest
invariant-loop-rest l = LongestBut l.project l.fn.jobs l.rest l.longest × (l.longest ≤ 1280000)

abbrev pub decreases-loop-rest : goal.decreases-loop-rest
decreases-loop-rest l = l.rest
