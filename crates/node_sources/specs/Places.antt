-- The places of a round's rows. Each worker has a range of its own for the rows of the children that it makes.
use Rattle.std.specs.Prelude.{ℕ, ◌+◌, ◌<◌, ◌≤◌, ◌⊎◌}
use Rattle.rcpsp_model.specs.Project.{Project}
use Rattle.node_deques.specs.declared.view.NodeTerms.{NodeTerms}
use Rattle.round_shares.specs.Share.{first_place}

-- the place is one of the worker's own
pub record IsOwnPlace (worker place : ℕ) : Type 0 where
  pub low : first_place worker ≤ place
  pub high : place < first_place (worker + 1)

-- it is none of them
abbrev pub IsElsewhere : ℕ → ℕ → Type 0
IsElsewhere worker place = (place < first_place worker) ⊎ (first_place (worker + 1) ≤ place)

-- what is known of each node in the deque of the worker
abbrev pub terms_of : Project → ℕ → NodeTerms
terms_of P worker = record { project = P; from = first_place worker; to = first_place (worker + 1) }
