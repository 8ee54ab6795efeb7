use Rattle.std.proofs.Common.{ℕ, ◌-◌, ◌+◌, ◌<◌, ap, sym, subst, arith}
use Rattle.profiles.specs.Steps.{HasSteps, IsSpan}
use Rattle.profiles.proofs.Shortages.{within-from, enough-more, span-stretch}
use Rattle.profiles.proofs.shortage.short_up_to.Goals as goal

pub returns-in-Some-clause-some : goal.returns-in-Some-clause-some
returns-in-Some-clause-some c = λ number h.
    let P = c.args.project.now in
    let s = c.stretches-stretches.result.now in
    let w = within-from P c.args.resource s c.args.from c.args.until c.place_at-first.result c.loop-place.place c.cut_from-stretch.result.begin c.min-end.result c.next_begin-next.result c.stretches-stretches.ensures
    (omega arith) (omega arith) c.place_at-first.ensures.next c.cut_from-stretch.ensures.begin (let f = c.from.ensures in omega arith) (omega arith) (omega arith) c.next_begin-next.ensures.next c.next_begin-next.ensures.last c.min-end.ensures in
    let own = subst (HasSteps number c.args.steps.now) (sym (ap (λ (n : ℕ). n - 1) c.from-own.ensures)) h in
    span-stretch number P c.args.resource s c.args.request c.args.from c.args.until c.loop-place.place c.cut_from-stretch.result.begin c.min-end.result c.next_begin-next.result c.in-Some.end c.stretches-stretches.ensures w
    c.in-Some.ensures.within
    (subst (λ (n : ℕ). IsSpan (λ t. n < number t + c.args.request) c.cut_from-stretch.result.begin c.min-end.result c.in-Some.end) c.cut_from-stretch.ensures.capacity (c.in-Some.ensures.some number own))

pub loop-place-preserved : goal.loop-place-preserved
loop-place-preserved c = λ number h t low high next.
    let P = c.args.project.now in
    let s = c.stretches-stretches.result.now in
    let w = within-from P c.args.resource s c.args.from c.args.until c.place_at-first.result c.loop-place.place c.cut_from-stretch.result.begin c.min-end.result c.next_begin-next.result c.stretches-stretches.ensures
    (omega arith) (omega arith) c.place_at-first.ensures.next c.cut_from-stretch.ensures.begin (let f = c.from.ensures in omega arith) (omega arith) (omega arith) c.next_begin-next.ensures.next c.next_begin-next.ensures.last c.min-end.ensures in
    let own = subst (HasSteps number c.args.steps.now) (sym (ap (λ (n : ℕ). n - 1) c.from-own.ensures)) h in
    enough-more number P c.args.resource s c.args.request c.args.from c.args.until c.loop-place.place c.cut_from-stretch.result.begin c.min-end.result c.next_begin-next.result c.stretches-stretches.ensures w
    (λ u from to. let fits = c.in-None.ensures.none number own u from to in let is = c.cut_from-stretch.ensures.capacity in omega arith)
    t low high (λ before. c.loop-place.invariant number h t low high (λ more. before)) next
