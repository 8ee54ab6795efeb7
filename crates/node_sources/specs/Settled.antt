-- The sources of a round before it and after it.
use Rattle.std.specs.Prelude.{◌≡◌, ℕ, ◌+◌, List, [], ◌∷◌, ◌++◌, map, All}
use Rattle.std.specs.List.{AllZip}
use Rattle.std.specs.declared.alloc.Global.{Global}
use Rattle.std.specs.declared.vec.Vec.{Vec}
use Rattle.rcpsp_model.specs.Project.{Project}
use Rattle.precedence_tree.specs.Node.{StandsFor}
use Rattle.search_log.specs.Weights.{total, Each}
use Rattle.search_log.specs.Stands.{Waiting}
use Rattle.search_rounds.specs.declared.round.WaitingNode.{WaitingNode}
use Rattle.search_rounds.specs.Round.{waiting_of}
use Rattle.node_sources.specs.declared.settling.Settled.{Settled}
use Rattle.node_sources.specs.Source.{SourceState, given_by, taken_by, IsSourceOf}
use Rattle.node_sources.specs.Seats.{AreSeated}

-- it has these nodes by itself, and nothing was given to a deque or taken out of one
pub record IsNew (P : Project) (dealt : Vec WaitingNode Global) (s : SourceState) : Type 0 where
  pub source : IsSourceOf P s
  pub list : s.list ≡ dealt.items
  pub given : given_by s ≡ []
  pub taken : taken_by s ≡ []

-- the sources of workers who have done nothing, each with its nodes
pub record AreNew (P : Project) (dealt : List (Vec WaitingNode Global)) (ss : List SourceState) : Type 0 where
  pub seated : AreSeated ss
  pub each : AllZip (IsNew P) dealt ss

abbrev pub all_given : List SourceState → List WaitingNode
all_given [] = []
all_given (s ∷ ss) = given_by s ++ all_given ss

abbrev pub all_taken : List SourceState → List WaitingNode
all_taken [] = []
all_taken (s ∷ ss) = taken_by s ++ all_taken ss

-- each source's list comes back. However nodes are weighed: what was taken out of deques, and what nobody took, is what was given
-- to them
pub record IsSettled (ss : List SourceState) (settled : Settled) : Type 0 where
  pub lists : settled.lists.items ≡ map (λ s. s.list) ss
  pub once : (weight : Waiting → ℕ) → total weight (waiting_of (all_taken ss)) + total weight (waiting_of settled.rest) ≡ total weight (waiting_of (all_given ss))
  pub nodes : (P : Project) → Each (IsSourceOf P) ss → All (λ w. StandsFor P w.node) settled.rest
