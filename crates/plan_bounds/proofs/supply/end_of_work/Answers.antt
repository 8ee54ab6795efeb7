use Rattle.std.proofs.Common.{◌≡◌, ℕ, ◌+◌, ◌-◌, ◌*◌, ◌≤◌, arith, sym, subst, ◌∙◌}
use Rattle.rcpsp_model.specs.Project.{capacity}
use Rattle.rcpsp_model.specs.Chain.{IsLeast}
use Rattle.project_net.specs.Stretches.{begin_of, capacity_of}
use Rattle.plan_bounds.proofs.SupplySteps.{IsLeftAt, same-held, ends-at_once, left-next, ends-within, ends-last}
use Rattle.plan_bounds.proofs.supply.end_of_work.Goals as goal

pub returns-then-work-eq0-clause-value : goal.returns-then-work-eq0-clause-value
returns-then-work-eq0-clause-value c = ends-at_once c.args.project.now c.args.resource c.args.from c.args.work c.if-work-eq0.true (let soon = c.requires.soon in omega arith)

pub returns-then-left-held-clause-value : goal.returns-then-left-held-clause-value
returns-then-left-held-clause-value c =
    let S = c.stretches-stretches.result.now in
    let place = c.loop-place.place in
    let at = c.loop-place.at in
    let left = c.loop-place.left in
    (ends-within c.args.project.now c.args.resource c.args.from c.args.work S place at left (c.from-there.result * (c.from-until.result - at)) c.periods_for.result c.stretches-stretches.ensures
    (let test = c.loop-place-test.true in omega arith)
    (same-held c.from-there.result (capacity_of S place) c.from-until.result (begin_of S (place + 1)) at c.from-there.ensures c.from-until.ensures)
    c.if-left-held.true c.loop-place.invariant.0
    (subst (λ (n : ℕ). IsLeast (λ q. left ≤ q * n) c.periods_for.result) c.from-there.ensures c.periods_for.ensures.value)).1

pub loop-place-preserved : goal.loop-place-preserved
loop-place-preserved c =
    let S = c.stretches-stretches.result.now in
    let place = c.loop-place.place in
    let at = c.loop-place.at in
    let left = c.loop-place.left in
    let until = c.from-until.ensures in
    let limit = (c.stretches-stretches.ensures.limits (place + 1)).0 in
    let spent = c.from-there.result * (c.from-until.result - at) in (
      subst (λ (t : ℕ). IsLeftAt c.args.project.now c.args.resource c.args.from c.args.work S (place + 1) t (left - spent)) (sym until)
          (left-next c.args.project.now c.args.resource c.args.from c.args.work S place at left spent c.stretches-stretches.ensures (let test = c.loop-place-test.true in omega arith) (same-held c.from-there.result (capacity_of S place) c.from-until.result (begin_of S (place + 1)) at c.from-there.ensures until) c.if-left-held.false c.loop-place.invariant.0),
      omega arith,
    )

pub returns-clause-value : goal.returns-clause-value
returns-clause-value c =
    let P = c.args.project.now in
    let k = c.args.resource in
    let whole : c.from.result ≡ capacity P k = c.from.ensures ∙ c.capacity.ensures.value in
    ends-last P k c.args.from c.args.work c.stretches-stretches.result.now c.loop-place.place c.loop-place.at c.loop-place.left c.periods_for-2.result c.min.result c.stretches-stretches.ensures
    (let some = c.stretches-stretches.ensures.some in let within = c.place_at-place.ensures.within in let end = c.loop-place.auto.place-end in let out = c.loop-place-test.false in omega arith) c.loop-place.invariant.0
    (subst (λ (n : ℕ). IsLeast (λ q. c.loop-place.left ≤ q * n) c.periods_for-2.result) whole c.periods_for-2.ensures.value) c.min.ensures
