use Rattle.std.proofs.Common.{◌≡◌}
use Rattle.project_gen.proofs.DraftSteps.{found_before}
use Rattle.project_gen.proofs.drafting.followers.Given as goal

abbrev pub invariant-loop-place : goal.invariant-loop-place
invariant-loop-place l = l.found.items ≡ found_before l.predecessors l.job l.place
