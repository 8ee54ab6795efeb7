use Rattle.precedence_tree.specs.Node.{StandsFor}
use Rattle.plain_sums.proofs.walks.node_of.Given as goal

abbrev pub invariant-loop-entry : goal.invariant-loop-entry
invariant-loop-entry g l = StandsFor l.project l.node
