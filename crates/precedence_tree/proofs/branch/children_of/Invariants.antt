use Rattle.std.proofs.Common.{◌≤◌, ◌-◌}
use Rattle.std.specs.Prelude.{All}
use Rattle.rcpsp_model.specs.Project.{job_count}
use Rattle.precedence_tree.specs.Children.{child_fronts, StandsWherePlaced}
use Rattle.precedence_tree.proofs.Branches.{AreChildrenTo}
use Rattle.precedence_tree.proofs.branch.children_of.Given as goal

-- the children by the jobs so far are there, and each that is placed stands for a front
abbrev pub invariant-loop-job : goal.invariant-loop-job
invariant-loop-job l = AreChildrenTo l.project l.expansion.front l.last (child_fronts l.all.items) × All (StandsWherePlaced l.project) l.all.items × (l.last ≤ job_count l.project)

abbrev pub decreases-loop-job : goal.decreases-loop-job
decreases-loop-job l = 128 - l.last
