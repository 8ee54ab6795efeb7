-- A text that is accepted tells the truth: no two reports have one text.
use Rattle.std.proofs.Common.{sym, ◌∙◌, subst}
use Rattle.rcpsp_model.specs.Claim.{Claim}
use Rattle.proof_log.specs.declared.report.Report.{Report}
use Rattle.proof_log.proofs.OneReport.{one_report_law}
use Rattle.log_truth.specs.Laws.{AcceptsLaw}
use Rattle.log_truth.proofs.TrueVerdicts.{holds_law}

pub accepts_law : AcceptsLaw
accepts_law P bytes report acyclic form narrow text a =
    let same = one_report_law a.report report a.form a.narrow form narrow (sym a.text ∙ text) in
    subst (λ (r : Report). Claim P r.verdict r.best) same (holds_law P a.report acyclic a.holds)
