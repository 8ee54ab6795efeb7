use Rattle.std.proofs.Common.{rules}
use Rattle.search_table.proofs.Steps.{loads}
use Rattle.search_table.proofs.table.RoundTable.best.Goals as goal

pub load-requires : goal.load-requires
load-requires c = (search rules, search rules, loads _ _ _ _ c.pass.invariant.live)
