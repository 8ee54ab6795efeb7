use Rattle.std.proofs.Common.{ap, arith, length}
use Rattle.std.proofs.lemmas.Bool.{both_ways}
use Rattle.std.proofs.lemmas.Bool.Decides.{nat_tests}
use Rattle.log_checker.proofs.WantedBranches.{complete-is}
use Rattle.log_checker.proofs.walk.Walk.is_complete.Goals as goal

pub returns-else-is_empty : goal.returns-else-is_empty
returns-else-is_empty c P sound = (
  λ t. absurd (both_ways c.is_empty.result c.if-is_empty.false t),
  λ e.
      let none = (complete-is P c.args.self.now.path.items c.args.self.now.root c.args.self.now.grown.items sound.path e).0 in
      let size = ap length none in
      let own = c.args.self.now.path.ok.0 in
      let test = c.is_empty.ensures in
      grind (arith, nat_tests),
)
