use Rattle.std.proofs.Common.{◌≡◌, ℕ, arith, sym, subst, length}
use Rattle.std.specs.Prelude.{All}
use Rattle.std.proofs.lemmas.List.Elements.{All-push}
use Rattle.rcpsp_model.specs.Project.{modes_of}
use Rattle.rcpsp_model.specs.Tree.{choices_by, AreChildrenBy}
use Rattle.precedence_tree.specs.Children.{child_fronts, Appends, StandsWherePlaced}
use Rattle.precedence_tree.proofs.Branches.{by_mode-none, by_mode-push}
use Rattle.precedence_tree.proofs.branch.push_by_mode.Goals as goal

pub loop-done-init : goal.loop-done-init
loop-done-init c = (by_mode-none c.args.project.now c.args.expansion.now.front c.args.job c.args.all.now.items, c.requires.stand)

pub loop-done-preserved : goal.loop-done-preserved
loop-done-preserved c =
    let Stands = StandsWherePlaced c.args.project.now in (
      by_mode-push c.args.project.now c.args.expansion.now.front c.args.job c.loop-done.done c.args.all.now.items c.loop-done.all.items c.push.new.self.items c.in_ok-next.next c.loop-done.invariant.0 c.in_ok-next.ensures.child c.in_ok-push.ensures.items,
      subst (All Stands) (sym c.in_ok-push.ensures.items) (All-push Stands c.loop-done.all.items c.in_ok-next.next c.loop-done.invariant.1 c.in_ok-next.ensures.stands),
    )

pub returns-clause-children : goal.returns-clause-children
returns-clause-children c =
    let P = c.args.project.now in
    let all : c.loop-done.done ≡ length (modes_of P c.args.job) = let size = c.modes-done-end.ensures.value in omega arith in
    subst (λ (n : ℕ). Appends (AreChildrenBy P c.args.expansion.now.front (choices_by c.args.job n)) (child_fronts c.args.all.now.items) (child_fronts c.loop-done.all.items)) all c.loop-done.invariant.0
