use Rattle.std.proofs.Common.{◌≡◌, arith, ap, ◌∙◌}
use Rattle.std.proofs.lemmas.Bool.{both_ways}
use Rattle.rcpsp_model.specs.declared.parts.Entry.{Entry}
use Rattle.rcpsp_model.specs.Project.{duration}
use Rattle.justify_plans.specs.Placings.{mode_in, start_in, others}
use Rattle.justify_plans.proofs.Spans.{early-found, early-room, early-full}
use Rattle.justify_plans.proofs.search.first_fit.Goals as goal

pub overflow_add-start : goal.overflow_add-start
overflow_add-start c =
    let s = c.args.places.now in let j = c.args.job in
    let start = ap (λ (e : Entry). e.start) c.entry_of-entry.ensures.entry in
    let low = c.entry_of-entry.ensures.start in
    let le = c.spans.invariant.all (start_in s j) c.requires.now in
    let short = c.duration-duration.ensures.limit in
    omega arith

pub next_change-end-requires-clause-some : goal.next_change-end-requires-clause-some
next_change-end-requires-clause-some c =
    let s = c.args.places.now in let j = c.args.job in
    let start = ap (λ (e : Entry). e.start) c.entry_of-entry.ensures.entry in
    let le = c.spans.invariant.all (start_in s j) c.requires.now in
    let test = c.spans-test.true in
    omega arith

pub spans-preserved-then-not-has_room : goal.spans-preserved-then-not-has_room
spans-preserved-then-not-has_room c =
    let P = c.args.project.now in let s = c.args.places.now in let j = c.args.job in
    let length : c.duration-duration.result ≡ duration P j (mode_in s j) = c.duration-duration.ensures.value ∙ ap (λ (e : Entry). duration P j e.mode) c.entry_of-entry.ensures.entry in
    let test = c.spans-test.true in
    early-full P s j (mode_in s j) c.args.from c.spans.start c.spans.end c.next_change-end.result c.requires.placed.whole c.next_change-end.ensures.after
    (record { quiet = c.next_change-end.ensures.quiet; steady = c.next_change-end.ensures.steady })
    (λ room. both_ways c.has_room.result c.if-not-has_room.true (c.has_room.ensures.1 room)) (omega arith) c.spans.invariant

pub spans-preserved : goal.spans-preserved
spans-preserved c =
    let P = c.args.project.now in let s = c.args.places.now in let j = c.args.job in
    early-room P s j (mode_in s j) c.args.from c.spans.start c.spans.end c.next_change-end.result c.requires.placed.whole c.next_change-end.ensures.after
    (record { quiet = c.next_change-end.ensures.quiet; steady = c.next_change-end.ensures.steady })
    (c.has_room.ensures.0 c.if-not-has_room.false) c.spans.invariant

pub returns : goal.returns
returns c =
    let P = c.args.project.now in let s = c.args.places.now in let j = c.args.job in
    let length : c.duration-duration.result ≡ duration P j (mode_in s j) = c.duration-duration.ensures.value ∙ ap (λ (e : Entry). duration P j e.mode) c.entry_of-entry.ensures.entry in
    let test = c.spans-test.false in
    early-found P (others s j) j (mode_in s j) c.args.from c.spans.start c.spans.end c.spans.invariant (omega arith)
