use Rattle.std.proofs.Common.{arith, refl}
use Rattle.precedence_tree.proofs.Frontiers.{without-one}
use Rattle.precedence_tree.proofs.frontier.without.Goals as goal

pub returns : goal.returns
returns c = without-one c.args.jobs c.args.job _ refl (omega arith) c.requires.low c.requires.high
