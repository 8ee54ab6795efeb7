use Rattle.search_log.proofs.FilledRows.{fills_law}
use Rattle.search_log.proofs.StayingRows.{stays_law, comes_law, from_law, filled_cites_law}
use Rattle.search_log.proofs.VerdictChanges.{close_law}
use Rattle.search_log.proofs.law.filled.Goals as goal

pub returns-clause-all : goal.returns-clause-all
returns-clause-all c = fills_law

pub returns-clause-closed : goal.returns-clause-closed
returns-clause-closed c = close_law

pub returns-clause-stays : goal.returns-clause-stays
returns-clause-stays c = stays_law

pub returns-clause-comes : goal.returns-clause-comes
returns-clause-comes c = comes_law

pub returns-clause-from : goal.returns-clause-from
returns-clause-from c = from_law

pub returns-clause-cited : goal.returns-clause-cited
returns-clause-cited c = filled_cites_law
