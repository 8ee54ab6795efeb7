use Rattle.std.proofs.Common.{vec_len}
use Rattle.std.specs.Prelude.{All}
use Rattle.rcpsp_model.specs.Project.{Project}
use Rattle.precedence_tree.specs.Node.{StandsFor}
use Rattle.precedence_tree.specs.Children.{StandsWherePlaced}
use Rattle.worker_tests.proofs.workers.push_placed.Given as goal

abbrev pub invariant-loop-next : goal.invariant-loop-next
invariant-loop-next l = (P : Project) → All (StandsFor P) l.fn.stack.items → All (StandsWherePlaced P) l.fn.children → All (StandsFor P) l.stack.items × All (StandsWherePlaced P) l.left.items

abbrev pub decreases-loop-next : goal.decreases-loop-next
decreases-loop-next l = vec_len l.left
