use Rattle.search_log.proofs.GrownTables.{start_law, gap_law, child_rows_law, child_places_law, grow_law, gather_law}
use Rattle.search_log.proofs.law.growing.Goals as goal

pub returns-clause-start : goal.returns-clause-start
returns-clause-start c = start_law

pub returns-clause-gap : goal.returns-clause-gap
returns-clause-gap c = gap_law

pub returns-clause-grow : goal.returns-clause-grow
returns-clause-grow c = grow_law

pub returns-clause-child : goal.returns-clause-child
returns-clause-child c = child_rows_law

pub returns-clause-children : goal.returns-clause-children
returns-clause-children c = child_places_law

pub returns-clause-gathered : goal.returns-clause-gathered
returns-clause-gathered c = gather_law
