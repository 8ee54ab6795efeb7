use Rattle.search_log.proofs.ToldLogs.{count_law}
use Rattle.search_log.proofs.VerdictChanges.{log_law, report_law}
use Rattle.search_log.proofs.law.told_log.Goals as goal

pub returns-clause-count : goal.returns-clause-count
returns-clause-count c = count_law

pub returns-clause-log : goal.returns-clause-log
returns-clause-log c = log_law

pub returns-clause-report : goal.returns-clause-report
returns-clause-report c = report_law
