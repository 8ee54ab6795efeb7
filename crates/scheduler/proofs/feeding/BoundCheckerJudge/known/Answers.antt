use Rattle.std.proofs.Common.{◌≡◌, ◌++◌, refl, arith, Option, Some, None}
use Rattle.bound_checker.specs.declared.checker.BoundRefusal.{BoundRefusal}
use Rattle.bound_checker.specs.Checker.{StandsFor}
use Rattle.scheduler.proofs.feeding.BoundCheckerJudge.known.Goals as goal

pub returns : goal.returns
returns c bytes more most stands = by c.args.self.now.refused refl
  where
    by : (r : Option BoundRefusal) → c.args.self.now.refused ≡ r → StandsFor c.args.self.now (bytes ++ more)
    by None e = let few = c.fed_bytes.ensures.few c.args.self.now bytes c.requires e stands in absurd (omega arith)
    by (Some refused) e = c.fed_bytes.ensures.refused c.args.self.now bytes more refused c.requires e stands
