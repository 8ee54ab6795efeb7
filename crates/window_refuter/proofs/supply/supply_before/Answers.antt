use Rattle.std.proofs.Common.{◌≡◌, ℕ, ◌+◌, ◌*◌, ◌-◌, arith, sym, ap, ◌∙◌}
use Rattle.rcpsp_model.specs.Bounds.{supply}
use Rattle.project_net.specs.Stretches.{capacity_of}
use Rattle.window_refuter.specs.Supply.{border}
use Rattle.window_refuter.proofs.Supplies.{first_border, next_border, last_border, supply-stretch, stretch-limit}
use Rattle.window_refuter.proofs.supply.supply_before.Goals as goal

pub loop-place-init : goal.loop-place-init
loop-place-init c =
    let first = first_border c.args.project.now c.args.resource c.stretches-stretches.result.now c.args.until c.stretches-stretches.ensures in
    record { at = sym first; sum = omega arith; limit = omega arith; soon = omega arith }

pub overflow_sub-next : goal.overflow_sub-next
overflow_sub-next c =
    let next = next_border c.args.project.now c.args.resource c.stretches-stretches.result.now c.args.until c.loop-place.place c.stretches-stretches.ensures c.loop-place-test.true in
    let rising = next.0 in let at = c.loop-place.invariant.at in let own = c.border-next.ensures in
    omega arith

pub loop-place-preserved : goal.loop-place-preserved
loop-place-preserved c =
    let P = c.args.project.now in
    let k = c.args.resource in
    let S = c.stretches-stretches.result.now in
    let until = c.args.until in
    let place = c.loop-place.place in
    let next = next_border P k S until place c.stretches-stretches.ensures c.loop-place-test.true in
    let rising = next.0 in let soon = next.1 in
    let at = c.loop-place.invariant.at in let own = c.border-next.ensures in
    let gained : c.from.result * c.from-in-loop-place.result ≡ capacity_of S place * (border S until (place + 1) - border S until place) =
    ap (λ (n : ℕ). n * c.from-in-loop-place.result) c.from.ensures ∙ ap (λ (n : ℕ). capacity_of S place * n) (let e : c.from-in-loop-place.result ≡ border S until (place + 1) - border S until place = omega (arith, c.from-in-loop-place.ensures) in e) in
    let more = supply-stretch P k S until place c.stretches-stretches.ensures c.loop-place-test.true in
    let limit = stretch-limit P k S place (border S until (place + 1) - border S until place) c.stretches-stretches.ensures in
    let before = ap (supply P k 0) at in
    let after = ap (supply P k 0) own in
    let old = c.loop-place.invariant.sum in
    let few = c.loop-place.invariant.limit in
    record { at = own; sum = omega arith; limit = omega arith; soon = omega arith }

pub returns-clause-value : goal.returns-clause-value
returns-clause-value c =
    let P = c.args.project.now in
    let last = last_border c.stretches-stretches.result.now c.args.until c.loop-place.place c.loop-place-test.false in
    let at = c.loop-place.invariant.at in
    let all = ap (supply P c.args.resource 0) (at ∙ last) in
    let sum = c.loop-place.invariant.sum in
    omega arith
