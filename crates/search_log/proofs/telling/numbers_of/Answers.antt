use Rattle.std.proofs.Common.{◌+◌, ◌<◌, length, refl, arith, length-set, ◌∙◌}
use Rattle.std.proofs.lemmas.List.Elements.{All-get_or}
use Rattle.search_log.proofs.PlaceNumbers.{numbers-more, all-numbered}
use Rattle.search_log.proofs.telling.numbers_of.Goals as goal

pub loop-i-preserved : goal.loop-i-preserved
loop-i-preserved c =
    let k = c.loop-i in
    let l : k.i < length c.args.order.now = omega arith in
    let w = All-get_or (λ p. p < c.args.size) c.args.order.now k.i 0 l c.requires.within in
    record {
      size = length-set k.numbers.items _ (k.i + 1) ∙ k.invariant.size;
      so_far = numbers-more k.numbers.items c.args.order.now k.i _ refl l (let s = k.invariant.size in omega arith) k.invariant.so_far;
    }

pub returns : goal.returns
returns c =
    let last = c.loop-i-test.false in
    all-numbered c.loop-i.numbers.items c.args.order.now c.loop-i.i (omega arith) c.loop-i.invariant.so_far
