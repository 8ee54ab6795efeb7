use Rattle.std.proofs.Common.{sym, subst}
use Rattle.rcpsp_model.specs.declared.parts.Child.{Child}
use Rattle.precedence_tree.specs.Node.{NodeState}
use Rattle.steal_rounds.specs.Children.{waiting_child}
use Rattle.steal_rounds.specs.Sources.{Gains}
use Rattle.steal_rounds.proofs.SourceTurns.{puts-gains}
use Rattle.steal_rounds.proofs.expanding.put_child.Goals as goal

pub returns-in_ok-put-in-Placed-clause-gains : goal.returns-in_ok-put-in-Placed-clause-gains
returns-in_ok-put-in-Placed-clause-gains c =
    subst (λ (child : Child NodeState). Gains (waiting_child c.args.place child) c.args.source.now c.put.new.self) (sym c.in-Placed.is)
    (puts-gains c.args.source.now c.args.place c.in-Placed.node c.put.new.self c.in_ok-put-in-Placed.ensures.put)
