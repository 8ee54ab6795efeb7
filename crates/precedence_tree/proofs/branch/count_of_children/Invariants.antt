use Rattle.std.proofs.Common.{◌≡◌, ◌≤◌, ◌*◌, ◌-◌, length}
use Rattle.rcpsp_model.specs.Project.{job_count}
use Rattle.rcpsp_model.proofs.Choices.{choices_to}
use Rattle.precedence_tree.proofs.branch.count_of_children.Given as goal

-- the modes of the eligible jobs so far are counted, at most 16 of each
abbrev pub invariant-loop-job : goal.invariant-loop-job
invariant-loop-job l = (l.count ≡ length (choices_to l.project l.expansion.front l.above)) × (l.count ≤ 16 * l.above) × (l.above ≤ job_count l.project)

abbrev pub decreases-loop-job : goal.decreases-loop-job
decreases-loop-job l = 128 - l.above
