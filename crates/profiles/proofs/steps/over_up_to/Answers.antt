use Rattle.std.proofs.Common.{ℕ, ◌≡◌, ◌+◌, ◌<◌, ◌≤◌, ◌^◌, ◌-◌, arith, ap, subst, List, length, get_or}
use Rattle.profiles.proofs.Reading.{HaveBegun, over-more, over-span}
use Rattle.profiles.proofs.steps.over_up_to.Goals as goal

pub returns-then-until-from-clause-none : goal.returns-then-until-from-clause-none
returns-then-until-from-clause-none c = λ number h t low high.
    let read = ap (λ (xs : List ℕ). get_or xs c.loop-row.row 0) c.as_slice-times.ensures.value in
    c.loop-row.invariant number h t low high (λ more. omega arith)

pub returns-then-limit-level-clause-some : goal.returns-then-limit-level-clause-some
returns-then-limit-level-clause-some c = λ number h.
    let s = c.args.steps.now in
    let read = ap (λ (xs : List ℕ). get_or xs c.loop-row.row 0) c.as_slice-times.ensures.value in
    let size = ap (λ (xs : List ℕ). length xs) c.as_slice-times.ensures.value in
    let begun = subst (λ (xs : List ℕ). HaveBegun xs c.args.from c.begun_by.result) c.as_slice-times.ensures.value (record { within = c.begun_by.ensures.within; begun = c.begun_by.ensures.begun; ahead = c.begun_by.ensures.ahead }) in
    let next = subst (λ (xs : List ℕ). (c.loop-row.row + 1 < length xs → c.next_time.result ≡ get_or xs (c.loop-row.row + 1) 0) × (length xs ≤ c.loop-row.row + 1 → c.next_time.result ≡ 2 ^ 64 - 1)) c.as_slice-times.ensures.value (c.next_time.ensures.next, c.next_time.ensures.last) in
    over-span number s.times.items s.levels.items s.width c.args.place c.args.limit c.args.from c.args.until c.begun_by.result c.saturating_sub-first.result c.loop-row.row c.next_time.result
    c.requires.order.rising begun c.saturating_sub-first.ensures (omega arith) (omega arith) c.requires.some (omega arith) (omega arith) (omega arith) (let l = c.level.ensures in omega arith) next.0 next.1 h

pub loop-row-preserved : goal.loop-row-preserved
loop-row-preserved c = λ number h t low high next.
    let s = c.args.steps.now in
    let size = ap (λ (xs : List ℕ). length xs) c.as_slice-times.ensures.value in
    over-more number s.times.items s.levels.items s.width c.args.place c.args.limit c.loop-row.row t h (omega arith) (let l = c.level.ensures in omega arith)
    (λ before. c.loop-row.invariant number h t low high (λ more. before)) next

pub returns-clause-none : goal.returns-clause-none
returns-clause-none c = λ number h t low high.
    let size = ap (λ (xs : List ℕ). length xs) c.as_slice-times.ensures.value in
    c.loop-row.invariant number h t low high (λ more. absurd (omega arith))
