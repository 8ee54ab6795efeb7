use Rattle.std.specs.Prelude.{IfSome}
use Rattle.rcpsp_model.specs.Project.{IsJob}
use Rattle.plan_search.proofs.scheme.next_job.Given as goal

abbrev pub invariant-loop-job : goal.invariant-loop-job
invariant-loop-job l = IfSome l.best (IsJob l.project)
