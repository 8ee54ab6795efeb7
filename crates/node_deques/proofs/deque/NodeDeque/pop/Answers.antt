use Rattle.std.proofs.Common.{ℕ, sym, subst}
use Rattle.crossbeam_deque.specs.Handles.{worker_view}
use Rattle.crossbeam_deque.specs.Tasks as tasks
use Rattle.node_deques.specs.Rule.{HoldsBetweenSteps}
use Rattle.node_deques.specs.Steps.{Pops, HasAllTaken}
use Rattle.node_deques.proofs.Steps.{pops, finds}
use Rattle.node_deques.proofs.deque.NodeDeque.pop.Goals as goal

pub pop_as-requires-clause-lifo : goal.pop_as-requires-clause-lifo
pop_as-requires-clause-lifo c = λ _. let v = worker_view c.self.inside.nodes in subst (λ (p : ℕ). tasks.Pops HoldsBetweenSteps p v (Pops v)) (sym c.self.invariant.first) (pops v)

pub pop_as-requires-clause-empty : goal.pop_as-requires-clause-empty
pop_as-requires-clause-empty c = let v = worker_view c.self.inside.nodes in subst (λ (p : ℕ). tasks.Finds HoldsBetweenSteps p v (HasAllTaken v)) (sym c.self.invariant.first) (finds v)
