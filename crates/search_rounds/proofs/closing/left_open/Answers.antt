use Rattle.search_rounds.proofs.ClosingFills.{late-left}
use Rattle.search_rounds.proofs.closing.left_open.Goals as goal

pub returns : goal.returns
returns c = late-left c.args.project.now c.args.node.now.front c.lower-bound.result c.args.best c.requires.inner c.lower-bound.ensures.value (c.requires.below c.lower-bound.result c.lower-bound.ensures.value) c.lower-bound.ensures.limit
