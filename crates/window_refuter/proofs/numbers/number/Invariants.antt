use Rattle.std.proofs.Common.{◌≡◌, ◌^◌, ◌<◌, drop}
use Rattle.std.specs.Str.{all_ascii_digits}
use Rattle.proof_log.specs.Reading.{value_after}
use Rattle.window_refuter.proofs.numbers.number.Given as goal

abbrev pub invariant-loop-digit : goal.invariant-loop-digit
invariant-loop-digit l = record {
  value : value_after l.number (drop l.digit-index l.word) ≡ value_after 0 l.word;
  digits : all_ascii_digits (drop l.digit-index l.word) ≡ all_ascii_digits l.word;
  bound : l.number < 10 ^ l.digit-index;
}
