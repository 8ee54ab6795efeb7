use Rattle.std.proofs.Common.{◌≡◌, min, take}
use Rattle.psplib_lex.specs.Number.{digits_value}
use Rattle.psplib_lex.proofs.numbers.capped_value.Given as goal

abbrev pub invariant-loop-digit : goal.invariant-loop-digit
invariant-loop-digit l = l.value ≡ min (digits_value (take l.digit-index l.digits)) l.cap
