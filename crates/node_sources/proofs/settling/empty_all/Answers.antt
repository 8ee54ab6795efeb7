use Rattle.std.proofs.Common.{◌≡◌, ◌++◌, ◌∷◌, sym, ap, subst, arith, List, map, All}
use Rattle.std.proofs.lemmas.List.Elements.{All-append}
use Rattle.precedence_tree.specs.Node.{StandsFor}
use Rattle.search_log.specs.Weights.{total, Each}
use Rattle.search_log.proofs.Sums.{total-append}
use Rattle.search_rounds.specs.declared.round.WaitingNode.{WaitingNode}
use Rattle.node_deques.specs.declared.node.DequeNode.{DequeNode}
use Rattle.node_deques.specs.Handles.{HandleState}
use Rattle.node_deques.specs.Steps.{HasAllPasses}
use Rattle.node_sources.specs.Source.{waiting}
use Rattle.node_sources.specs.Joins.{popped, accepted}
use Rattle.node_sources.proofs.Nodes.{All-waiting, All-front, All-back}
use Rattle.node_sources.proofs.Joins.{left-weighs, left-all, parted}
use Rattle.node_sources.proofs.settling.empty_all.Goals as goal

pub loop-deque-preserved : goal.loop-deque-preserved
loop-deque-preserved c =
    let v = c.loop-deque.invariant in
    let d : HandleState = c.in-Some.deque in
    let ds : List HandleState = c.pop_front.new.self.items in
    let cons : c.loop-deque.deques.items ≡ d ∷ ds = c.in-Some.ensures.items in
    let left : List DequeNode = c.in_ok-left.left.items in
    let once = c.in_ok-left.ensures.once in
    let more = c.in_ok-add_left.ensures in
    record {
      passes = (subst (Each (λ (h : HandleState). HasAllPasses h.view)) cons v.passes).1;
      once = λ weight.
          let a = v.once weight in
          let b = ap (λ (hs : List HandleState). total weight (map waiting (accepted hs))) cons in
          let e = parted weight d.view.accepted (accepted ds) in
          let f = ap (λ (hs : List HandleState). total weight (map waiting (popped hs))) cons in
          let g = parted weight d.view.taken (popped ds) in
          let h = left-weighs weight d left once in
          let i = ap (total weight) more in
          let j = total-append weight c.loop-deque.rest.items (map waiting left) in
          omega arith;
      nodes = λ P all.
          let Q : DequeNode → Type 0 = λ x. StandsFor P x.node in
          let w = v.nodes P all in
          let here : All Q (d.view.accepted ++ accepted ds) = subst (λ (hs : List HandleState). All Q (accepted hs)) cons w.1 in
          let own = All-waiting (StandsFor P) left (left-all Q d left once (All-front Q d.view.accepted (accepted ds) here)) in (
            subst (All (λ u. StandsFor P u.node)) (sym more) (All-append (λ (u : WaitingNode). StandsFor P u.node) c.loop-deque.rest.items (map waiting left) w.0 own),
            All-back Q d.view.accepted (accepted ds) here,
          );
    }
