use Rattle.std.proofs.Common.{◌-◌, ap, arith}
use Rattle.std.specs.Prelude.{slice_index}
use Rattle.project_gen.specs.Made.{need_of}
use Rattle.project_gen.proofs.NeedSteps.{least-more}
use Rattle.project_gen.proofs.needs.least_need.Goals as goal
use Rattle.project_gen.proofs.needs.least_need.Goals.{then-need-least, else-need-least}

pub loop-place-preserved : goal.loop-place-preserved
loop-place-preserved c =
    let more = least-more (need_of c.args.resource) c.args.modes.now c.loop-place.place c.index-modes-place.result c.loop-place.auto.place c.loop-place-test.true in
    let at = ap (need_of c.args.resource) c.index-modes-place.is in
    let need = ap (λ needs. slice_index needs (c.args.resource - 1)) c.as_slice-in-loop-place.ensures in
    let old = c.loop-place.invariant.least in let limit = c.loop-place.invariant.limit in
    elim c.if-need-least.branch [
      | then-need-least w ↦ let t = w.if-need-least.true in let e = w.least-is in record { least = omega arith; limit = omega arith }
      | else-need-least w ↦ let f = w.if-need-least.false in let e = w.least-is in record { least = omega arith; limit = omega arith }
    ]
