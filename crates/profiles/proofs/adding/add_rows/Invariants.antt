use Rattle.std.proofs.Common.{◌≡◌, vec_len, vec_capacity}
use Rattle.profiles.specs.Adding.{AreRaised}
use Rattle.profiles.proofs.adding.add_rows.Given as goal

abbrev pub invariant-loop-place : goal.invariant-loop-place
invariant-loop-place l = record { raised : AreRaised l.fn.levels.items l.levels.items l.first l.place l.requests; length : vec_len l.levels ≡ vec_len l.fn.levels; capacity : vec_capacity l.levels ≡ vec_capacity l.fn.levels }
