use Rattle.search_log.proofs.TablesComputed.{worked_tables}
use Rattle.search_log.proofs.examples.worked_tables.Goals as goal

pub returns : goal.returns
returns c = worked_tables
