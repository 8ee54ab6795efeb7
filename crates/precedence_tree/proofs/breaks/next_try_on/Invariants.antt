use Rattle.project_net.specs.Stretches.{begin_of}
use Rattle.precedence_tree.proofs.BreakSteps.{FitsBefore}
use Rattle.precedence_tree.proofs.breaks.next_try_on.Given as goal

-- the job fits in its periods before the stretch
abbrev pub invariant-loop-place : goal.invariant-loop-place
invariant-loop-place l = FitsBefore l.project l.active l.job l.mode l.resource l.start (begin_of l.stretches l.place)
