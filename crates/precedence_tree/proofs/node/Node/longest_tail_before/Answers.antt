use Rattle.std.proofs.Common.{◌≡◌, sym, ap, subst, ◌∙◌, []}
use Rattle.std.specs.Prelude.{Option, None}
use Rattle.precedence_tree.specs.declared.base.Base.{Base}
use Rattle.precedence_tree.specs.Tails.{IsLongestTail}
use Rattle.precedence_tree.specs.Node.{NodeState, front_before}
use Rattle.precedence_tree.proofs.Pushed.{eligible-none}
use Rattle.precedence_tree.proofs.node.Node.longest_tail_before.Goals as goal

pub returns-in-None-clause-value : goal.returns-in-None-clause-value
returns-in-None-clause-value c =
    let P = c.args.project.now in
    let none : c.args.self.now.base ≡ None = sym (ap (λ (n : NodeState). n.base) c.self.view_is) ∙ c.in-None.is in
    subst (λ (o : Option Base). IsLongestTail P (front_before o) c.longest_tail.result) (sym none)
    (c.longest_tail.ensures.value [] (eligible-none P [] c.empty.result c.open_jobs-open.result c.known.ensures.acyclic (λ i low. c.empty.ensures i) c.open_jobs-open.ensures))
