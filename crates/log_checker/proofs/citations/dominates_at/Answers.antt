use Rattle.std.proofs.Common.{sym, ap, subst, List}
use Rattle.rcpsp_model.specs.declared.parts.Entry.{Entry}
use Rattle.rcpsp_model.specs.Dominance.{Dominates}
use Rattle.precedence_tree.specs.declared.base.Base.{Base}
use Rattle.log_checker.proofs.CitedPlaces.{made-shut, made-front}
use Rattle.log_checker.proofs.citations.dominates_at.Goals as goal

pub returns-in-Shut : goal.returns-in-Shut
returns-in-Shut c k of =
    let no_ = made-shut c.args.project.now c.args.parent.now.front.front k.front c.args.citing.turn c.in-Shut.job c.in-Shut.mode c.in-Shut.why c.in_ok-child_of.field-0 c.in_ok-child_of.ensures.child c.in-Shut.is of in
    (λ t. absurd no_, λ d. absurd no_)

pub returns-in_ok-record-in-Placed : goal.returns-in_ok-record-in-Placed
returns-in_ok-record-in-Placed c k of =
    let P = c.args.project.now in
    let front = made-front P c.args.parent.now.front.front k.front c.args.citing.turn c.in-Placed.node c.in_ok-child_of.field-0 c.in_ok-child_of.ensures.child c.in-Placed.is of in
    let own = ap (λ (b : Base). b.front) c.in_ok-record-in-Placed.ensures in
    let exactly = c.dominates.ensures.value in (
      λ t. subst (λ (G : List Entry). Dominates P c.args.cited.now.front.front G) front (subst (λ (F : List Entry). Dominates P F c.in-Placed.node.front) own (exactly.0 t)),
      λ d. exactly.1 (subst (λ (F : List Entry). Dominates P F c.in-Placed.node.front) (sym own) (subst (λ (G : List Entry). Dominates P c.args.cited.now.front.front G) (sym front) d)),
    )
