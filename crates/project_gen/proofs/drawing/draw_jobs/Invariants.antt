use Rattle.project_gen.proofs.JobSteps.{AreDrawnBefore}
use Rattle.project_gen.proofs.drawing.draw_jobs.Given as goal

abbrev pub invariant-loop-job : goal.invariant-loop-job
invariant-loop-job g l = AreDrawnBefore l.jobs l.modes (g.R.Rng.stream l.initial.rng) l.job (g.R.Rng.stream l.rng) l.predecessors.items l.of_jobs.items
