use Rattle.std.proofs.Common.{sym, ap, subst, ◌∙◌}
use Rattle.rcpsp_model.specs.Project.{IsProject}
use Rattle.bound_checker.specs.Checker.{BoundCheckerState, StandsAs}
use Rattle.bound_checker.proofs.Outcomes.{broken-refused, refused-judged}
use Rattle.bound_checker.proofs.checker.BoundChecker.finish.Goals as goal

pub returns-in-Some-clause-judged : goal.returns-in-Some-clause-judged
returns-in-Some-clause-judged c bytes s =
    let is = subst (λ (v : BoundCheckerState). IsProject v.project) c.self.view_is c.known.ensures in
    let same = sym (ap (λ (v : BoundCheckerState). v.refused) c.self.view_is) ∙ c.in-Some.is in
    refused-judged c.args.self.project is bytes c.in-Some.refused (broken-refused c.args.self.project is bytes c.in-Some.refused.line (subst (StandsAs c.args.self bytes) same s))
