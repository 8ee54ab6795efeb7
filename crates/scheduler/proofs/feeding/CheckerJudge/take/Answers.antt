use Rattle.std.proofs.Common.{◌≡◌, ◌∙◌, sym, false, List, ℕ, ◌++◌}
use Rattle.std.specs.Prelude.{Result, Ok, Err, IfErr, Some, is_ok}
use Rattle.log_checker.specs.declared.refused.Refused.{Refused}
use Rattle.log_checker.specs.Checker.{CheckerState, StandsFor}
use Rattle.log_checker.proofs.FedBytes.{stands-refused}
use Rattle.scheduler.proofs.feeding.CheckerJudge.take.Goals as goal

enough : {A : Type 0} (c : CheckerState) (r : Result A Refused) → IfErr r (λ refused. c.refused ≡ Some refused) → is_ok r ≡ false → (bytes more : List ℕ) → StandsFor c bytes → StandsFor c (bytes ++ more)
enough c (Ok x) err e = absurd (cc (e))
enough c (Err refused) err e = λ bytes more s. stands-refused c bytes more refused err s

pub returns-clause-enough : goal.returns-clause-enough
returns-clause-enough c e = enough c.feed.new.self c.feed.result c.feed.ensures.err (sym c.is_ok.ensures.value ∙ e)
