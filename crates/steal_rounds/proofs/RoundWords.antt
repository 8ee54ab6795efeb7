-- Words on the answers of a round.
use Rattle.std.proofs.Common.{◌≡◌, ℕ, ◌+◌, ◌<◌, arith, List, [], ◌∷◌, length, Result, Ok, Err, IfOk}
use Rattle.search_log.specs.declared.row.Fill.{Fill}
use Rattle.search_log.specs.Weights.{total}

-- what a call answers has a property that follows from another
pub if_ok-weaker : {X E : Type 0} (Q R : X → Type 0) (r : Result X E) → IfOk r Q → ((x : X) → Q x → R x) → IfOk r R
if_ok-weaker Q R (Ok x) q f = f x q
if_ok-weaker Q R (Err e) q f = tt

-- a worker that had nodes, and tickets to win, visited one
pub some-fills : (f : Fill → ℕ) (fills : List Fill) (made refused won quota : ℕ) → total f fills ≡ made → won ≡ made → 0 < length fills + refused → (0 < refused → won ≡ quota) → 0 < quota → 0 < length fills
some-fills f [] made refused won quota t w m s q = absurd (let x = s (omega arith) in omega arith)
some-fills f (x ∷ fills) made refused won quota t w m s q = omega arith
