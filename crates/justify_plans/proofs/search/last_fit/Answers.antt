use Rattle.std.proofs.Common.{◌≡◌, arith, ap, ◌∙◌}
use Rattle.std.proofs.lemmas.Bool.{both_ways}
use Rattle.rcpsp_model.specs.declared.parts.Entry.{Entry}
use Rattle.rcpsp_model.specs.Project.{duration}
use Rattle.justify_plans.specs.Placings.{mode_in, start_in, others}
use Rattle.justify_plans.proofs.Spans.{late-found, late-room, late-full}
use Rattle.justify_plans.proofs.search.last_fit.Goals as goal

pub last_change-begin-requires-clause-some : goal.last_change-begin-requires-clause-some
last_change-begin-requires-clause-some c =
    let P = c.args.project.now in let s = c.args.places.now in let j = c.args.job in
    let length : c.duration-duration.result ≡ duration P j (mode_in s j) = c.duration-duration.ensures.value ∙ ap (λ (e : Entry). duration P j e.mode) c.entry_of-entry.ensures.entry in
    let start : c.entry_of-entry.result.start ≡ start_in s j = ap (λ (e : Entry). e.start) c.entry_of-entry.ensures.entry in
    let by = c.spans.invariant.all (start_in s j) c.requires.now in let test = c.spans-test.true in
    omega arith

pub spans-preserved-then-not-has_room : goal.spans-preserved-then-not-has_room
spans-preserved-then-not-has_room c =
    let P = c.args.project.now in let s = c.args.places.now in let j = c.args.job in
    let length : c.duration-duration.result ≡ duration P j (mode_in s j) = c.duration-duration.ensures.value ∙ ap (λ (e : Entry). duration P j e.mode) c.entry_of-entry.ensures.entry in
    let test = c.spans-test.true in
    late-full P s j (mode_in s j) c.args.until c.last_change-begin.result c.spans.begin c.spans.finish c.requires.placed.whole c.last_change-begin.ensures.before
    (record { quiet = c.last_change-begin.ensures.quiet; steady = c.last_change-begin.ensures.steady })
    (λ room. both_ways c.has_room.result c.if-not-has_room.true (c.has_room.ensures.1 room)) (omega arith) c.spans.invariant

pub spans-preserved : goal.spans-preserved
spans-preserved c =
    let P = c.args.project.now in let s = c.args.places.now in let j = c.args.job in
    late-room P s j (mode_in s j) c.args.until c.last_change-begin.result c.spans.begin c.spans.finish c.requires.placed.whole c.last_change-begin.ensures.before
    (record { quiet = c.last_change-begin.ensures.quiet; steady = c.last_change-begin.ensures.steady })
    (c.has_room.ensures.0 c.if-not-has_room.false) c.spans.invariant

pub returns : goal.returns
returns c =
    let P = c.args.project.now in let s = c.args.places.now in let j = c.args.job in
    let length : c.duration-duration.result ≡ duration P j (mode_in s j) = c.duration-duration.ensures.value ∙ ap (λ (e : Entry). duration P j e.mode) c.entry_of-entry.ensures.entry in
    let test = c.spans-test.false in
    late-found P (others s j) j (mode_in s j) c.args.until c.spans.begin c.spans.finish _ c.spans.invariant (omega arith) (omega arith)
