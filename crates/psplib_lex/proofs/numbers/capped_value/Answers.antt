use Rattle.std.proofs.Common.{◌∙◌}
use Rattle.psplib_lex.proofs.Capped.{capped_more}
use Rattle.psplib_lex.proofs.numbers.capped_value.Goals as goal

pub loop-digit-preserved : goal.loop-digit-preserved
loop-digit-preserved c = c.with_digit-value.ensures ∙ capped_more c.args.digits.now c.loop-digit.digit-index c.loop-digit.value _ c.loop-digit-test.true c.loop-digit.invariant
