use Rattle.std.proofs.Common.{arith, ℕ, sym, ap, ◌∙◌, string_bytes, String, Vec, Global}
use Rattle.std.specs.Str.{bytes_eq}
use Rattle.sched_base.proofs.NamedTexts.{text_here, text_after}
use Rattle.sched_base.proofs.texts.place_of.Goals as goal

pub returns-then-eq-clause-has : goal.returns-then-eq-clause-has
returns-then-eq-clause-has c =
    let same = ap (λ bytes. bytes_eq bytes c.args.name.now) (sym c.as_str.ensures.value) ∙ sym c.eq.ensures ∙ c.if-eq.true in
    sym (sym c.loop-place.invariant.1 ∙ text_here (λ (t : String Global × Vec ℕ Global). (string_bytes t.0, t.1.items)) c.args.texts.now c.loop-place.place c.index-texts-place.result (omega arith) c.args.name.now same)

pub loop-place-preserved : goal.loop-place-preserved
loop-place-preserved c =
    let other = ap (λ bytes. bytes_eq bytes c.args.name.now) (sym c.as_str.ensures.value) ∙ sym c.eq.ensures ∙ c.if-eq.false in
    let after = text_after (λ (t : String Global × Vec ℕ Global). (string_bytes t.0, t.1.items)) c.args.texts.now c.loop-place.place c.index-texts-place.result (omega arith) c.args.name.now other in
    (after.0 ∙ c.loop-place.invariant.0, after.1 ∙ c.loop-place.invariant.1)
