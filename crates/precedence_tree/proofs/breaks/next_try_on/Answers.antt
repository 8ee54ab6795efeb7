use Rattle.std.proofs.Common.{ℕ, ◌+◌, arith, subst}
use Rattle.project_net.specs.Stretches.{begin_of, capacity_of}
use Rattle.precedence_tree.proofs.BreakSteps.{IsFreeFrom, before-more, before-all, next-from}
use Rattle.precedence_tree.proofs.breaks.next_try_on.Goals as goal

pub returns-then-max-free-clause-some : goal.returns-then-max-free-clause-some
returns-then-max-free-clause-some c =
    let P = c.args.project.now in
    let xs = c.args.active.now in
    let S = c.stretches-stretches.result.now in
    let k = c.args.resource in
    let place = c.loop-place.place in
    let free = c.free_within-free.result in
    next-from P xs c.args.job c.args.mode k S c.args.start place free c.stretches-stretches.ensures (let test = c.loop-place-test.true in omega arith)
    (let meets = c.if-finish-stretch.false in let time = c.duration.ensures.value in omega arith) c.requires.time (let over = c.if-max-free.true in let most = c.max.ensures in omega arith) c.free_within-free.ensures.within
    (subst (λ (asked : ℕ). IsFreeFrom P xs k asked (capacity_of S place) (begin_of S (place + 1)) free) c.request-asked.ensures.value c.free_within-free.ensures.value)

pub loop-place-preserved : goal.loop-place-preserved
loop-place-preserved c =
    let P = c.args.project.now in
    let xs = c.args.active.now in
    let S = c.stretches-stretches.result.now in
    let k = c.args.resource in
    let place = c.loop-place.place in
    let free = c.free_within-free.result in
    before-more P xs c.args.job c.args.mode k S c.args.start place free c.stretches-stretches.ensures (let test = c.loop-place-test.true in omega arith)
    (let under = c.if-max-free.false in let most = c.max.ensures in omega arith)
    (subst (λ (asked : ℕ). IsFreeFrom P xs k asked (capacity_of S place) (begin_of S (place + 1)) free) c.request-asked.ensures.value c.free_within-free.ensures.value) c.loop-place.invariant

pub returns-clause-none : goal.returns-clause-none
returns-clause-none c =
    before-all c.args.project.now c.args.active.now c.args.job c.args.mode c.args.resource c.stretches-stretches.result.now c.args.start c.loop-place.place c.stretches-stretches.ensures c.requires.resource
    (let some = c.stretches-stretches.ensures.some in let within = c.place_at-place.ensures.within in let end = c.loop-place.auto.place-end in let out = c.loop-place-test.false in omega arith) c.requires.room c.loop-place.invariant
