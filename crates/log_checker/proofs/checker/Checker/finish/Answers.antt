use Rattle.std.proofs.Common.{sym, ap, subst, ◌∙◌, Err}
use Rattle.rcpsp_model.specs.Project.{IsProject}
use Rattle.log_checker.specs.Checker.{CheckerState, StandsAs, StandsFor, IsFinished}
use Rattle.log_checker.proofs.ReportEnds.{stands-finished}
use Rattle.log_checker.proofs.ExactVerdicts.{finished}
use Rattle.log_checker.proofs.checker.Checker.finish.Goals as goal

pub returns-in-Some-clause-judged : goal.returns-in-Some-clause-judged
returns-in-Some-clause-judged c bytes s =
    finished c.args.self.project bytes (subst (λ (v : CheckerState). IsProject v.project) c.self.view_is c.known.ensures) (Err c.in-Some.refused)
    (stands-finished c.args.self bytes c.in-Some.refused (sym (ap (λ (v : CheckerState). v.refused) c.self.view_is) ∙ c.in-Some.is) s)

pub returns-clause-judged : goal.returns-clause-judged
returns-clause-judged c bytes s =
    let own = c.self.inside in
    let view : CheckerState = record { project = own.project.now; reader = own.reader; number = own.number; course = own.course; refused = own.refused } in
    let before : StandsFor view bytes = subst (λ (v : CheckerState). StandsFor v bytes) (sym c.self.view_is) s in
    let runs = subst (StandsAs view bytes) c.in-None.is before in
    subst (λ (v : CheckerState). IsFinished v.project bytes c.judge_end.result) c.self.view_is (finished own.project.now bytes c.known.ensures c.judge_end.result (c.judge_end.ensures own.reader bytes runs))
