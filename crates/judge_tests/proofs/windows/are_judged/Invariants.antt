use Rattle.std.proofs.Common.{◌≡◌, length}
use Rattle.rcpsp_model.specs.Project.{job_count}
use Rattle.judge_tests.proofs.windows.are_judged.Given as goal

abbrev pub invariant-loop-step : goal.invariant-loop-step
invariant-loop-step l = length l.windows.windows ≡ job_count l.project
