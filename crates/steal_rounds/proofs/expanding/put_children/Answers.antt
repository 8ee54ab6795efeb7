use Rattle.std.proofs.Common.{◌≡◌, ◌∙◌, ℕ, ◌+◌, ◌++◌, ◌∷◌, [], ap, subst, List, length, append_assoc}
use Rattle.rcpsp_model.specs.declared.parts.Child.{Child}
use Rattle.precedence_tree.specs.Node.{NodeState}
use Rattle.node_sources.proofs.Stays.{stays-on}
use Rattle.steal_rounds.specs.Children.{waiting_child, placed_from}
use Rattle.steal_rounds.specs.Sources.{Gains}
use Rattle.steal_rounds.proofs.SourceTurns.{gains-child}
use Rattle.steal_rounds.proofs.expanding.put_children.Goals as goal

pub rest-preserved : goal.rest-preserved
rest-preserved c =
    let v = c.rest.invariant in
    let rest = c.pop.new.self.items in
    let cons : c.rest.rest.items ≡ rest ++ c.in-Some.child ∷ [] = c.in-Some.ensures.items in
    let many : length c.as_slice.result.now ≡ length rest = ap length c.as_slice.ensures.value in
    record {
      done = c.in-Some.child ∷ v.done;
      all = v.all ∙ (ap (λ (xs : List (Child NodeState)). xs ++ v.done) cons ∙ append_assoc rest (c.in-Some.child ∷ []) v.done);
      stays = stays-on c.args.source.now c.rest.source c.put_child.new.source v.stays c.put_child.ensures.stays;
      gains = gains-child c.args.first rest v.done c.in-Some.child c.args.source.now c.rest.source c.put_child.new.source
          (subst (λ (xs : List (Child NodeState)). Gains (placed_from (c.args.first + length xs) v.done) c.args.source.now c.rest.source) cons v.gains)
          (subst (λ (n : ℕ). Gains (waiting_child (c.args.first + n) c.in-Some.child) c.rest.source c.put_child.new.source) many c.in_ok-put_child.ensures.gains);
    }
