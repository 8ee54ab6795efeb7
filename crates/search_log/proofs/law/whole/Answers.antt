use Rattle.search_log.proofs.ToldLogs.{whole_law}
use Rattle.search_log.proofs.FewRows.{room_law}
use Rattle.search_log.proofs.OneParent.{one_front_law, parent_law}
use Rattle.search_log.proofs.law.whole.Goals as goal

pub returns-clause-account : goal.returns-clause-account
returns-clause-account c = whole_law

pub returns-clause-room : goal.returns-clause-room
returns-clause-room c = room_law

pub returns-clause-front : goal.returns-clause-front
returns-clause-front c = one_front_law

pub returns-clause-parent : goal.returns-clause-parent
returns-clause-parent c = parent_law
