use Rattle.std.proofs.Common.{arith}
use Rattle.rcpsp_model.proofs.Calendars.{calm_law}
use Rattle.project_net.proofs.project.Project.calm.Goals as goal

pub returns-clause-limit : goal.returns-clause-limit
returns-clause-limit c =
    let is = c.self.invariant.stretches.calm in let le = calm_law c.self.inside.network c.self.invariant.project.limits in
    omega arith
