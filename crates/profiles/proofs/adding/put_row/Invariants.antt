use Rattle.std.proofs.Common.{◌+◌, ◌≤◌, vec_len, vec_capacity}
use Rattle.profiles.specs.Adding.{AreShifted}
use Rattle.profiles.proofs.adding.put_row.Given as goal

abbrev pub invariant-loop-place : goal.invariant-loop-place
invariant-loop-place l = record { shifted : AreShifted l.fn.levels.items l.levels.items l.first l.width l.place; length : vec_len l.levels + l.first ≤ vec_len l.fn.levels + l.place; capacity : vec_capacity l.fn.levels ≤ vec_capacity l.levels }
