use Rattle.std.proofs.Common.{◌≡◌, ◌+◌, ◌-◌, ◌*◌, ◌≤◌, ◌∙◌, ℕ, sym, ap, arith, drop, get_or, length}
use Rattle.proof_log.specs.Reading.{value_after}
use Rattle.proof_log.proofs.Digits.{short, next_value, power, next_power, digit_range, other_byte, digit_more, no_number, no_digits, whole_number, digits_end, value_end}
use Rattle.window_refuter.proofs.numbers.number.Goals as goal

pub returns-then-not-may_be_number : goal.returns-then-not-may_be_number
returns-then-not-may_be_number c = sym (no_number c.args.word.now (sym c.may_be_number.ensures ∙ c.if-not-may_be_number.true))

pub returns-then-not-is_ascii_digit : goal.returns-then-not-is_ascii_digit
returns-then-not-is_ascii_digit c =
    let word = c.args.word.now in
    sym (no_digits word (sym c.loop-digit.invariant.digits ∙ other_byte word c.loop-digit.digit-index c.loop-digit-test.true (sym c.is_ascii_digit.ensures.value ∙ c.if-not-is_ascii_digit.true)))

pub overflow_mul-number : goal.overflow_mul-number
overflow_mul-number c =
    let few = short c.args.word.now (sym c.may_be_number.ensures ∙ c.if-not-may_be_number.false) in
    omega (arith, power c.loop-digit.digit-index (omega arith))

pub overflow_add-number : goal.overflow_add-number
overflow_add-number c =
    let few = short c.args.word.now (sym c.may_be_number.ensures ∙ c.if-not-may_be_number.false) in
    let range = digit_range (get_or c.args.word.now c.loop-digit.digit-index 0) (sym c.is_ascii_digit.ensures.value ∙ c.if-not-is_ascii_digit.false) in
    omega (arith, power c.loop-digit.digit-index (omega arith), c.from.ensures)

pub loop-digit-preserved : goal.loop-digit-preserved
loop-digit-preserved c =
    let word = c.args.word.now in
    let i = c.loop-digit.digit-index in
    let is_digit = sym c.is_ascii_digit.ensures.value ∙ c.if-not-is_ascii_digit.false in
    let range = digit_range (get_or word i 0) is_digit in
    let digit : c.from.result ≡ get_or word i 0 - 48 = c.from.ensures in
    record {
      value =
          ap (λ (d : ℕ). value_after (10 * c.loop-digit.number + d) (drop (i + 1) word)) digit
          ∙ sym (next_value c.loop-digit.number word i c.loop-digit-test.true)
          ∙ c.loop-digit.invariant.value;
      digits = sym (digit_more word i c.loop-digit-test.true is_digit) ∙ c.loop-digit.invariant.digits;
      bound = next_power c.loop-digit.number c.from.result i c.loop-digit.invariant.bound (omega arith);
    }

pub returns : goal.returns
returns c =
    let word = c.args.word.now in
    let i = c.loop-digit.digit-index in
    let past : length word ≤ i = omega arith in
    sym (whole_number word c.loop-digit.number (sym c.may_be_number.ensures ∙ c.if-not-may_be_number.false) (sym c.loop-digit.invariant.digits ∙ digits_end word i past) (sym c.loop-digit.invariant.value ∙ value_end word c.loop-digit.number i past))
