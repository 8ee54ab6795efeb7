-- What a project keeps beside its network.
use Rattle.rcpsp_model.specs.Project.{Project, IsProject}
use Rattle.rcpsp_model.specs.Rank.{IsLowestFirst}
use Rattle.project_net.specs.declared.prepared.Prepared.{Prepared}
use Rattle.project_net.specs.Causes.{AreAllCauses}
use Rattle.project_net.specs.Order.{AreRanks, IsTopological}
use Rattle.project_net.specs.Tails.{AreTails}
use Rattle.project_net.specs.Least.{AreLeastValues}
use Rattle.project_net.specs.Stretches.{AreAllStretches}

-- a project with its jobs in order, what they take at least, their tails and ranks, the stretches of its resources, and
-- what excludes its modes
pub record IsPrepared (P : Project) (prepared : Prepared) : Type 0 where
  pub project : IsProject P
  pub lowest_first : IsLowestFirst P prepared.order.items
  pub topological : IsTopological P prepared.order.items
  pub least : AreLeastValues P prepared.least
  pub longest : AreTails P prepared.tails.items
  pub ranks : AreRanks P prepared.ranks.items
  pub stretches : AreAllStretches P prepared.stretches
  pub causes : AreAllCauses P prepared.causes.items
