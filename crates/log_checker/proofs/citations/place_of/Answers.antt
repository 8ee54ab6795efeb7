use Rattle.std.proofs.Common.{◌+◌, ◌-◌, ◌/◌, ◌<◌, ◌∙◌, sym, ap, arith, length}
use Rattle.log_checker.specs.declared.walk.Grown.{Grown}
use Rattle.log_checker.proofs.CitedPlaces.{less-before, greater-behind}
use Rattle.log_checker.proofs.citations.place_of.Goals as goal

pub loop-low-preserved-then-there-line-2 : goal.loop-low-preserved-then-there-line-2
loop-low-preserved-then-there-line-2 c =
    let grown = c.args.grown.now in
    let middle = c.loop-low.low + (c.loop-low.high - c.loop-low.low) / 2 in
    let within = c.loop-low.invariant.within in
    let order = c.loop-low.invariant.order in
    let inside : c.loop-low.low + (c.loop-low.high - c.loop-low.low) / 2 < length c.args.grown.now = omega arith in
    record {
      order = omega arith;
      within = within;
      before = λ asc i low. less-before grown 0 middle c.args.line c.index-grown-middle.result inside c.index-grown-middle.is (let e = ap (λ (g : Grown). g.line) c.index-grown-middle.is in let low = c.if-there-line-2.true in omega arith) asc i low;
      behind = c.loop-low.invariant.behind;
    }

pub loop-low-preserved : goal.loop-low-preserved
loop-low-preserved c =
    let grown = c.args.grown.now in
    let middle = c.loop-low.low + (c.loop-low.high - c.loop-low.low) / 2 in
    let within = c.loop-low.invariant.within in
    let order = c.loop-low.invariant.order in
    let inside : c.loop-low.low + (c.loop-low.high - c.loop-low.low) / 2 < length c.args.grown.now = omega arith in
    record {
      order = omega arith;
      within = omega arith;
      before = c.loop-low.invariant.before;
      behind = λ asc j low high. greater-behind grown middle c.args.line c.index-grown-middle.result inside c.index-grown-middle.is (let e = ap (λ (g : Grown). g.line) c.index-grown-middle.is in let high = c.if-there-line-2.false in omega arith)
          (λ same. c.if-there-line.false (sym (ap (λ (g : Grown). g.line) c.index-grown-middle.is) ∙ same)) asc j low high;
    }
