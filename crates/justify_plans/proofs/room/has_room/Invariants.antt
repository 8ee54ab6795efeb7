use Rattle.std.proofs.Common.{ℕ, ◌+◌, ◌≤◌}
use Rattle.rcpsp_model.specs.Project.{request}
use Rattle.rcpsp_model.specs.Schedule.{usage, cap}
use Rattle.justify_plans.specs.Placings.{mode_in, others}
use Rattle.justify_plans.proofs.room.has_room.Given as goal

abbrev pub invariant-loop-done : goal.invariant-loop-done
invariant-loop-done l = (k : ℕ) → 1 ≤ k → k ≤ l.done → usage l.project (others l.places l.job) k l.period + request l.project l.job (mode_in l.places l.job) k ≤ cap l.project k l.period
