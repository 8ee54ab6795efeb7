-- What contracts see of the source of a worker's nodes.
use Rattle.std.specs.Prelude.{◌≡◌, ℕ, List, [], ◌∷◌, ◌++◌, map, All}
use Rattle.rcpsp_model.specs.Project.{Project}
use Rattle.precedence_tree.specs.Node.{StandsFor}
use Rattle.search_log.specs.Weights.{Each}
use Rattle.search_rounds.specs.declared.round.WaitingNode.{WaitingNode}
use Rattle.node_deques.specs.declared.node.DequeNode.{DequeNode}
use Rattle.node_deques.specs.Handles.{HandleState}
use Rattle.node_sources.specs.declared.reach.Reach.{Reach}
use Rattle.node_sources.specs.Places.{terms_of}

-- the worker's number, its own deque, the nodes that it has by itself, the next one first, and its reaches into others' deques
pub record SourceState : Type 0 where
  pub number : ℕ
  pub deque : HandleState
  pub list : List WaitingNode
  pub reaches : List Reach

-- a node of a deque, with its place
abbrev pub waiting : DequeNode → WaitingNode
waiting x = record { place = x.place; node = x.node }

-- what came through these reaches
abbrev pub stolen : List Reach → List DequeNode
stolen [] = []
stolen (r ∷ rs) = r.thief.view.taken ++ stolen rs

-- what its deque accepted
abbrev pub given_by : SourceState → List WaitingNode
given_by s = map waiting s.deque.view.accepted

-- what it took out of deques, its own first
abbrev pub taken_by : SourceState → List WaitingNode
taken_by s = map waiting (s.deque.view.taken ++ stolen s.reaches)

-- it leads to the deque of another worker
pub record LeadsOn (P : Project) (worker : ℕ) (r : Reach) : Type 0 where
  pub other : r.owner ≡ worker → ⊥
  pub terms : r.thief.view.terms ≡ terms_of P r.owner ∷ []

-- each node that is in it, or may come to it, stands for a front of the project
pub record IsSourceOf (P : Project) (s : SourceState) : Type 0 where
  pub terms : s.deque.view.terms ≡ terms_of P s.number ∷ []
  pub given : All (λ x. StandsFor P x.node) s.deque.view.accepted
  pub list : All (λ w. StandsFor P w.node) s.list
  pub reaches : Each (LeadsOn P s.number) s.reaches
