use Rattle.window_refuter.proofs.ReadLines.{no_fifth}
use Rattle.window_refuter.proofs.reading.read_line.Goals as goal

pub returns-in-Some-rest-3 : goal.returns-in-Some-rest-3
returns-in-Some-rest-3 c =
    let first = rw c.in-Some.is at c.split_word.ensures in
    let second = rw c.in-Some-rest.is at c.split_word-2.ensures in
    let third = rw c.in-Some-rest-2.is at c.split_word-3.ensures in
    let fourth = rw c.in-Some-rest-3.is at c.split_word-4.ensures in
    let all = no_fifth c.split_word.result.0.now c.split_word-2.result.0.now c.split_word-3.result.0.now c.split_word-4.result.0.now c.in-Some-rest-3.field-0.now in
    cc
