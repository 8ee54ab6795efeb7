-- What a try works with.
use Rattle.std.specs.Prelude.{◌≡◌, ◌+◌, ◌*◌, ◌≤◌, vec_len, vec_capacity}
use Rattle.rcpsp_model.specs.Project.{Project, job_count, nonrenewables}
use Rattle.plan_search.specs.declared.tries.Tools.{Tools}

-- a key for each job, a sum of needs for each nonrenewable resource, and room for the spans of a whole plan, two more for
-- each job
pub record AreFor (P : Project) (tools : Tools) : Type 0 where
  pub keys : vec_len tools.keys ≡ job_count P
  pub needs : vec_len tools.needs ≡ nonrenewables P
  pub room : vec_len tools.whole.spans + 2 * job_count P ≤ vec_capacity tools.room.spans
