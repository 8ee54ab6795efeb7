use Rattle.std.proofs.Common.{ap}
use Rattle.precedence_tree.specs.declared.base.Base.{Base}
use Rattle.log_checker.proofs.LeftChoices.{next-is, none-is}
use Rattle.log_checker.proofs.choices.first_above.Goals as goal

pub returns-in-Some : goal.returns-in-Some
returns-in-Some c =
    next-is c.args.project.now c.args.front.now.front c.args.front.now.eligible c.base.result.now.eligible c.args.job c.in-Some.next.0 c.known.ensures.limits c.requires.base.eligible (ap (λ (b : Base). b.eligible) c.base.ensures)
    c.in-Some.ensures.some

pub returns-in-None : goal.returns-in-None
returns-in-None c =
    none-is c.args.project.now c.args.front.now.front c.args.front.now.eligible c.base.result.now.eligible c.args.job c.requires.base.eligible (ap (λ (b : Base). b.eligible) c.base.ensures) c.in-None.ensures.none
