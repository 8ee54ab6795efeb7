use Rattle.std.proofs.Common.{◌≡◌, take}
use Rattle.precedence_tree.specs.Node.{StandsFor}
use Rattle.precedence_tree.proofs.following.node_of.Given as goal

abbrev pub invariant-loop-place : goal.invariant-loop-place
invariant-loop-place l = (l.node.front ≡ take l.place l.entries) × StandsFor l.project l.node
