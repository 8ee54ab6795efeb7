use Rattle.rcpsp_model.specs.Schedule.{used}
use Rattle.precedence_tree.proofs.Sums.{SetTo}
use Rattle.cutset_store.proofs.facts.set_used.Given as goal

abbrev pub invariant-loop-done : goal.invariant-loop-done
invariant-loop-done l = SetTo l.done (used l.project l.node.front) l.initial.numbers l.numbers
