use Rattle.rcpsp_model.proofs.tree.leaf.Goals as goal
use Rattle.rcpsp_model.proofs.RootAndLeaves.{leaf_law}

pub returns : goal.returns
returns c = leaf_law
