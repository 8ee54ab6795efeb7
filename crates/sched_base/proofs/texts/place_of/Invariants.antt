use Rattle.std.proofs.Common.{◌≡◌, map, drop, string_bytes}
use Rattle.sched_base.specs.Outside.{text_under}
use Rattle.sched_base.specs.Memory.{has_text}
use Rattle.sched_base.proofs.texts.place_of.Given as goal

abbrev pub invariant-loop-place : goal.invariant-loop-place
invariant-loop-place l =
    (text_under (drop l.place (map (λ t. (string_bytes t.0, t.1.items)) l.texts)) l.name ≡ text_under (map (λ t. (string_bytes t.0, t.1.items)) l.texts) l.name)
    × (has_text (drop l.place (map (λ t. (string_bytes t.0, t.1.items)) l.texts)) l.name ≡ has_text (map (λ t. (string_bytes t.0, t.1.items)) l.texts) l.name)
