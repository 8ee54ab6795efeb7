use Rattle.std.proofs.Common.{sym, subst}
use Rattle.rcpsp_model.specs.Project.{IsAcyclic}
use Rattle.project_net.proofs.OtherBudget.{acyclic-with_budget}
use Rattle.project_net.proofs.project.Project.with_budget.Goals as goal

pub of_network-requires : goal.of_network-requires
of_network-requires c =
    subst IsAcyclic (sym c.in_ok-network.ensures) (acyclic-with_budget c.self.inside.network c.args.resource c.args.budget c.self.invariant.project.acyclic)
