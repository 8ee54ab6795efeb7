use Rattle.std.proofs.Common.{◌≡◌, ◌+◌, ◌++◌, length, vec_len, List}
use Rattle.rcpsp_model.specs.declared.parts.Child.{Child}
use Rattle.precedence_tree.specs.Node.{NodeState}
use Rattle.node_sources.specs.Seats.{Stays}
use Rattle.steal_rounds.specs.Children.{placed_from}
use Rattle.steal_rounds.specs.Sources.{Gains}
use Rattle.steal_rounds.proofs.expanding.put_children.Given as goal

-- the last children were put
abbrev pub invariant-rest : goal.invariant-rest
invariant-rest l = record {
  done : List (Child NodeState);
  all : l.fn.children ≡ l.rest.items ++ done;
  stays : Stays l.initial.source l.source;
  gains : Gains (placed_from (l.first + length l.rest.items) done) l.initial.source l.source;
}

abbrev pub decreases-rest : goal.decreases-rest
decreases-rest l = vec_len l.rest
