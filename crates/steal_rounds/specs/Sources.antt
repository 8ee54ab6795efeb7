-- What the source of a worker's nodes tells of what it handled.
use Rattle.std.specs.Prelude.{◌≡◌, ℕ, ◌+◌, List, ◌++◌}
use Rattle.search_log.specs.Weights.{total}
use Rattle.search_log.specs.Stands.{Waiting}
use Rattle.search_rounds.specs.declared.round.WaitingNode.{WaitingNode}
use Rattle.search_rounds.specs.Round.{waiting_of}
use Rattle.node_sources.specs.Source.{SourceState, given_by, taken_by}
use Rattle.round_shares.specs.Share.{Handled}

-- the worker got what it was dealt and what it took out of deques, and gave what its own deque accepted
abbrev pub handled_by : List Waiting → SourceState → Handled
handled_by dealt s = record { got = dealt ++ waiting_of (taken_by s); given = waiting_of (given_by s) }

-- these nodes came to the list or were given to the deque, however nodes are weighed; none was taken
pub record Gains (ws : List WaitingNode) (before after : SourceState) : Type 0 where
  pub taken : taken_by after ≡ taken_by before
  pub once : (weight : Waiting → ℕ) → total weight (waiting_of after.list) + total weight (waiting_of (given_by after)) ≡ total weight (waiting_of ws) + total weight (waiting_of before.list) + total weight (waiting_of (given_by before))
