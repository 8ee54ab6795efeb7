use Rattle.std.proofs.Common.{◌≡◌, ◌∙◌, sym, subst, false, List, ℕ, ◌++◌}
use Rattle.std.specs.Prelude.{Result, Ok, Err, IfErr, Some, is_ok}
use Rattle.rcpsp_model.specs.Project.{IsProject}
use Rattle.bound_checker.specs.declared.checker.BoundRefusal.{BoundRefusal}
use Rattle.bound_checker.specs.Checker.{BoundCheckerState, StandsFor}
use Rattle.bound_checker.specs.Laws.{RefusedLaw}
use Rattle.scheduler.proofs.feeding.BoundCheckerJudge.take.Goals as goal

enough : {A : Type 0} (c : BoundCheckerState) (r : Result A BoundRefusal) → RefusedLaw → IsProject c.project → IfErr r (λ refused. c.refused ≡ Some refused) → is_ok r ≡ false → (bytes more : List ℕ) → StandsFor c bytes → StandsFor c (bytes ++ more)
enough c (Ok x) law is err e = absurd (cc (e))
enough c (Err refused) law is err e = λ bytes more s. law c bytes more refused is err s

pub returns-clause-enough : goal.returns-clause-enough
returns-clause-enough c e = enough c.feed.new.self c.feed.result c.fed_bytes.ensures.refused (subst IsProject (sym c.feed.ensures.project) c.requires) c.feed.ensures.err (sym c.is_ok.ensures.value ∙ e)
