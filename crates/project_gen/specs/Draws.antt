-- Draws: numbers made of the words that a generator gives, in order.
use Rattle.std.specs.Prelude.{ℕ, zero, suc, ◌+◌, ◌%◌, List, [], ◌∷◌}
use Rattle.rand_core.specs.Stream.{Stream, next_u32}
use Rattle.rand_core.specs.Steps.{stream_of, steps_u32}
use Rattle.rand_pcg.specs.Lcg.{started, increment_of}
use Rattle.rand_pcg.specs.Pcg.{multiplier_64, pcg32}

-- all words that come of a seed: the generator PCG XSH RR 64/32 (O'Neill 2014) with the seed as its state and 54 as its
-- stream
unfoldable pub stream_of_seed : ℕ → Stream
stream_of_seed seed = stream_of (steps_u32 pcg32) (started 64 multiplier_64 seed (increment_of 64 54))

-- the words that are left after the first i
unfoldable pub after : ℕ → Stream → Stream
after zero s = s
after (suc i) s = after i (next_u32 s).1

-- word i, counted from 0, modulo q
unfoldable pub draw : Stream → ℕ → ℕ → ℕ
draw s i q = (next_u32 (after i s)).0 % q

-- words i and i + 1, each modulo q
unfoldable pub two_draws : Stream → ℕ → ℕ → List ℕ
two_draws s i q = draw s i q ∷ draw s (i + 1) q ∷ []
