use Rattle.std.proofs.Common.{◌≡◌, ℕ, ◌+◌, map, All}
use Rattle.std.specs.VecDeque.{deque_len}
use Rattle.rcpsp_model.specs.Project.{Project}
use Rattle.precedence_tree.specs.Node.{StandsFor}
use Rattle.search_log.specs.Weights.{total, Each}
use Rattle.search_rounds.specs.declared.round.WaitingNode.{WaitingNode}
use Rattle.node_deques.specs.Steps.{HasAllPasses}
use Rattle.node_sources.specs.Source.{waiting}
use Rattle.node_sources.specs.Joins.{popped, accepted}
use Rattle.node_sources.proofs.settling.empty_all.Given as goal

abbrev pub invariant-loop-deque : goal.invariant-loop-deque
invariant-loop-deque l = record {
  passes : Each (λ d. HasAllPasses d.view) l.deques.items;
  once : (weight : WaitingNode → ℕ) → total weight (map waiting (popped l.fn.deques.items)) + total weight l.rest.items + total weight (map waiting (accepted l.deques.items))
      ≡ total weight (map waiting (accepted l.fn.deques.items)) + total weight (map waiting (popped l.deques.items));
  nodes : (P : Project) → All (λ x. StandsFor P x.node) (accepted l.fn.deques.items) → All (λ w. StandsFor P w.node) l.rest.items × All (λ x. StandsFor P x.node) (accepted l.deques.items);
}

abbrev pub decreases-loop-deque : goal.decreases-loop-deque
decreases-loop-deque l = deque_len l.deques
