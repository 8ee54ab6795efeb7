use Rattle.std.proofs.Common.{rules}
use Rattle.search_table.proofs.Steps.{offers}
use Rattle.search_table.proofs.table.RoundTable.offer.Goals as goal

pub fetch_min-requires : goal.fetch_min-requires
fetch_min-requires c = (search rules, search rules, offers _ _ _ _ _ c.pass.invariant.live)
