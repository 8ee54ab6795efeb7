use Rattle.std.specs.Prelude.{All}
use Rattle.rcpsp_model.specs.Tree.{choices_by, AreChildrenBy}
use Rattle.precedence_tree.specs.Children.{child_fronts, Appends, StandsWherePlaced}
use Rattle.precedence_tree.proofs.branch.push_by_mode.Given as goal

-- the children by the modes so far are appended, and each that is placed stands for a front
abbrev pub invariant-loop-done : goal.invariant-loop-done
invariant-loop-done l = Appends (AreChildrenBy l.project l.expansion.front (choices_by l.job l.done)) (child_fronts l.initial.all.items) (child_fronts l.all.items) × All (StandsWherePlaced l.project) l.all.items
