use Rattle.std.proofs.Common.{arith}
use Rattle.window_refuter.proofs.WindowLimits.{lf_limit}
use Rattle.window_refuter.proofs.interval.overfull.Goals as goal

pub returns-in-Some-clause-some : goal.returns-in-Some-clause-some
returns-in-Some-clause-some c =
    let finish = c.in-Some.ensures.finish in
    let same = finish.1 in
    let limit = lf_limit c.args.windows.now finish.0 c.args.end c.requires.within.finishes in
    let count = c.renewables-done-end.ensures.value in
    let before = c.loop-done-test.true in
    record {
      renewable = (omega arith, omega arith);
      forwards = c.in-Some.ensures.some;
      by_end = omega arith;
      exceeds = c.in-Some.ensures.full;
    }
