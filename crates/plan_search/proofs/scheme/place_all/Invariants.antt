use Rattle.std.proofs.Common.{◌+◌, ◌*◌, ◌≤◌, vec_len}
use Rattle.std.specs.Prelude.{vec_capacity}
use Rattle.rcpsp_model.specs.Project.{job_count}
use Rattle.project_net.specs.Feasible.{IsPlaced}
use Rattle.plan_search.proofs.scheme.place_all.Given as goal

abbrev pub invariant-jobs : goal.invariant-jobs
invariant-jobs l = record {
  placed : IsPlaced l.project l.places;
  spare : vec_len l.room.spans + 2 * job_count l.project ≤ vec_capacity l.room.spans + 2 * l.counter;
  capacity : vec_capacity l.fn.room.spans ≤ vec_capacity l.room.spans;
}
