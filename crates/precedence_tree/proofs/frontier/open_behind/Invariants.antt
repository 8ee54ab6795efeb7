use Rattle.std.proofs.Common.{◌≤◌, ◌-◌}
use Rattle.precedence_tree.specs.Frontier.{Opens}
use Rattle.precedence_tree.proofs.Chosen.{ChosenTo}
use Rattle.precedence_tree.proofs.frontier.open_behind.Given as goal

abbrev pub invariant-loop-next : goal.invariant-loop-next
invariant-loop-next l = ChosenTo (Opens l.project l.placed l.job) l.last l.open × (l.last ≤ 128)

abbrev pub decreases-loop-next : goal.decreases-loop-next
decreases-loop-next l = 128 - l.last
