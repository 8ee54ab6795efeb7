use Rattle.std.proofs.Common.{arith}
use Rattle.std.proofs.lemmas.List.{length-take}
use Rattle.cutset_store.proofs.row.row_of.Goals as goal

pub returns-clause-active : goal.returns-clause-active
returns-clause-active c = let size = length-take 128 c.args.base.now.active in omega arith
