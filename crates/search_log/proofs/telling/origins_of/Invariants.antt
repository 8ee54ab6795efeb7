use Rattle.std.proofs.Common.{◌≡◌, map, take}
use Rattle.std.specs.Prelude.{slice_index}
use Rattle.search_log.specs.Told.{origin_at, told_origin}
use Rattle.search_log.proofs.telling.origins_of.Given as goal

abbrev pub invariant-loop-place : goal.invariant-loop-place
invariant-loop-place l = l.told.items ≡ map (λ p. told_origin (slice_index l.numbers p) (origin_at l.origins p)) (take l.place-index l.order)
