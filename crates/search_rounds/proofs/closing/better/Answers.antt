use Rattle.std.proofs.Common.{arith}
use Rattle.rcpsp_model.proofs.Fronts.{front-end}
use Rattle.search_rounds.proofs.closing.better.Goals as goal

pub returns-clause-soon : goal.returns-clause-soon
returns-clause-soon c =
    let end = c.requires.node.end in
    let few = front-end c.args.project.now c.args.node.now.front c.known.ensures.limits c.requires.node.front in
    omega arith
