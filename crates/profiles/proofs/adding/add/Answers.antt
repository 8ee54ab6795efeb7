use Rattle.std.proofs.Common.{◌≡◌, ◌+◌, arith, subst, length}
use Rattle.profiles.specs.Steps.{HaveRoom}
use Rattle.profiles.proofs.Splits.{split-facts, rows-le}
use Rattle.profiles.proofs.Additions.{first-le, added}
use Rattle.profiles.proofs.adding.add.Goals as goal

pub overflow_mul-last : goal.overflow_mul-last
overflow_mul-last c =
    let a = split-facts _ c.split-first.new.steps _ _ c.requires.order c.split-first.ensures.split in
    let b = split-facts _ c.split-last.new.steps _ _ a.order c.split-last.ensures.split in
    let size = b.order.size in
    let within = b.within in
    let le = rows-le c.split-last.result (length c.split-last.new.steps.times.items) c.split-last.new.steps.width (omega arith) in
    omega arith

pub add_rows-requires-clause-order : goal.add_rows-requires-clause-order
add_rows-requires-clause-order c =
    let a = split-facts _ c.split-first.new.steps _ _ c.requires.order c.split-first.ensures.split in
    let b = split-facts _ c.split-last.new.steps _ _ a.order c.split-last.ensures.split in
    rows-le c.split-first.result c.split-last.result c.split-last.new.steps.width (first-le _ _ _ _ _ _ _ c.requires.periods a b)

pub add_rows-requires-clause-within : goal.add_rows-requires-clause-within
add_rows-requires-clause-within c =
    let a = split-facts _ c.split-first.new.steps _ _ c.requires.order c.split-first.ensures.split in
    let b = split-facts _ c.split-last.new.steps _ _ a.order c.split-last.ensures.split in
    let size = b.order.size in
    let within = b.within in
    let le = rows-le c.split-last.result (length c.split-last.new.steps.times.items) c.split-last.new.steps.width (omega arith) in
    omega arith

pub add_rows-requires-clause-levels : goal.add_rows-requires-clause-levels
add_rows-requires-clause-levels c =
    let a = split-facts _ c.split-first.new.steps _ _ c.requires.order c.split-first.ensures.split in
    let b = split-facts _ c.split-last.new.steps _ _ a.order c.split-last.ensures.split in
    b.low 1000000 (a.low 1000000 c.requires.levels)

pub returns-clause-added : goal.returns-clause-added
returns-clause-added c =
    let a = split-facts _ c.split-first.new.steps _ _ c.requires.order c.split-first.ensures.split in
    let b = split-facts _ c.split-last.new.steps _ _ a.order c.split-last.ensures.split in
    added c.args.steps.now c.split-first.new.steps c.split-last.new.steps (record { times = c.split-last.new.steps.times; levels = c.add_rows.new.levels; width = c.split-last.new.steps.width })
    c.args.start c.args.finish c.split-first.result c.split-last.result c.args.requests.now c.requires.periods a b c.add_rows.ensures.raised c.requires.width

pub returns-clause-room : goal.returns-clause-room
returns-clause-room c = λ n room.
    let z : n + 2 ≡ n + 1 + 1 = omega arith in
    let first = c.split-first.ensures.room (n + 1) (subst (HaveRoom c.args.steps.now) z room) in
    let both = c.split-last.ensures.room n first in
    let size = c.add_rows.ensures.raised.size in
    let a = both.levels in
    let capacity = c.add_rows.ensures.capacity in
    record { times = both.times; levels = omega arith }
