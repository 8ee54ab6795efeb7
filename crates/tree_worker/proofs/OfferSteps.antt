-- An end that is offered.
use Rattle.std.proofs.Common.{◌≡◌, ℕ, ◌<◌, arith, List, [], ◌∷◌}
use Rattle.search_table.specs.Lists.{least}

-- an end that is less than all that was offered is the least
pub least-new : (start end : ℕ) (ends : List ℕ) → end < least start ends → least end ends ≡ end
least-new start end [] l = omega arith
least-new start end (e ∷ es) l = let r = least-new start end es (omega arith) in omega arith
