use Rattle.search_rounds.proofs.ReportForms.{form_law, report_form_law}
use Rattle.search_rounds.proofs.law.told_report.Goals as goal

pub returns-clause-form : goal.returns-clause-form
returns-clause-form c = form_law

pub returns-clause-report : goal.returns-clause-report
returns-clause-report c = report_form_law
