use Rattle.std.proofs.Common.{◌≡◌, ℕ, ◌+◌, ◌-◌, ◌<◌, ◌⊎◌, length, refl, subst, arith, rules}
use Rattle.node_sources.specs.Seating.{ReachesMore}
use Rattle.node_sources.proofs.NewReaches.{first_behind, reaches-next}
use Rattle.node_sources.proofs.seating.add_reaches.Goals as goal

pub loop-steps-preserved : goal.loop-steps-preserved
loop-steps-preserved c =
    let v = c.loop-steps.invariant in
    let count : ℕ = length c.args.sources.now in
    let some : 0 < c.loop-steps.steps = search rules in
    let many : c.loop-steps.steps ≡ c.loop-steps.steps - 1 + 1 = omega arith in
    let now : c.loop-steps.steps - 1 + 1 ≡ c.loop-steps.steps + 1 - 1 = omega arith in
    record {
      new = λ P dealt before. c.in_ok-add_reach.ensures.new P dealt (v.new P dealt before);
      more = subst (λ (k : ℕ). ReachesMore c.args.index (first_behind c.args.index count k) c.args.sources.now c.add_reach.new.sources) now
          (reaches-next c.args.index count (c.loop-steps.steps - 1) c.behind.result c.args.sources.now c.loop-steps.sources c.add_reach.new.sources c.requires.index refl c.requires.numbers c.behind.ensures.within
          (subst (λ (k : ℕ). (c.behind.result ≡ c.args.index + k) ⊎ (c.behind.result + count ≡ c.args.index + k)) many c.behind.ensures.place) v.more c.in_ok-add_reach.ensures.more);
    }
