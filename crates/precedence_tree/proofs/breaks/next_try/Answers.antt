use Rattle.std.proofs.Common.{arith, sym, subst, List}
use Rattle.std.specs.Prelude.{All}
use Rattle.precedence_tree.specs.declared.active.Active.{Active}
use Rattle.precedence_tree.specs.Active.{IsNamed}
use Rattle.precedence_tree.specs.Starts.{FitsOn, IsNextTry}
use Rattle.precedence_tree.proofs.Actives.{active-named}
use Rattle.precedence_tree.proofs.BreakSteps.{next-of_all}
use Rattle.precedence_tree.proofs.breaks.next_try.Goals as goal

pub next_try_on-requires-clause-named : goal.next_try_on-requires-clause-named
next_try_on-requires-clause-named c =
    subst (All (IsNamed c.args.project.now)) (sym c.as_slice-active.ensures) (active-named c.args.project.now c.args.base.now.front c.args.base.now.active c.requires.base.front c.requires.base.active)

pub returns-in-Some-clause-some : goal.returns-in-Some-clause-some
returns-in-Some-clause-some c =
    let P = c.args.project.now in
    let k = c.loop-resource.resource in
    let next = c.in-Some.next in
    next-of_all P c.args.base.now.active c.args.job c.args.mode k c.args.start next (omega arith, omega arith)
    (subst (λ (xs : List Active). IsNextTry (FitsOn P xs c.args.job c.args.mode k) c.args.start next) c.as_slice-active.ensures c.in-Some.ensures.some)
