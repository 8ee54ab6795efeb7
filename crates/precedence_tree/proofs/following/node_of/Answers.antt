use Rattle.std.proofs.Common.{[], sym, subst, List, get_or}
use Rattle.std.proofs.lemmas.Option.{MatchOption-at_none}
use Rattle.rcpsp_model.specs.declared.parts.Entry.{Entry}
use Rattle.rcpsp_model.specs.Tree.{Follows}
use Rattle.precedence_tree.specs.Node.{StepsTo}
use Rattle.rcpsp_model.proofs.Fronts.{no_entry, in_turn-at}
use Rattle.precedence_tree.proofs.following.node_of.Goals as goal

pub returns-in-None : goal.returns-in-None
returns-in-None c = λ f.
    let P = c.args.project.now in
    let F = c.args.entries.now in
    let e = get_or F c.loop-place.place no_entry in
    let next = in_turn-at (Follows P) [] F c.loop-place.place no_entry f c.loop-place-test.true in
    MatchOption-at_none (Follows P c.loop-place.node.front e → ⊥) (StepsTo P c.loop-place.node.front e) c.in-None.is c.in_ok-next.ensures (subst (λ (G : List Entry). Follows P G e) (sym c.loop-place.invariant.0) next)
