use Rattle.std.proofs.Common.{◌∙◌}
use Rattle.msrp_plan.proofs.Common.{arith, sym}
use Rattle.msrp_text.proofs.Digits.{digit-at}
use Rattle.msrp_event_text.proofs.LongDigits.{long-digits, pow-nineteen}
use Rattle.msrp_event_text.proofs.numbers.long_number_of.Goals as goal

pub overflow_mul-number : goal.overflow_mul-number
overflow_mul-number c =
    let number = long-digits c.args.text.now (sym c.is_long_number.ensures ∙ c.if-not-is_long_number.false) in
    let h = pow-nineteen c.loop-digit.digit-index (omega arith) in
    omega (arith, c.loop-digit.invariant.small)

pub overflow_add-number : goal.overflow_add-number
overflow_add-number c =
    let number = long-digits c.args.text.now (sym c.is_long_number.ensures ∙ c.if-not-is_long_number.false) in
    let h = pow-nineteen c.loop-digit.digit-index (omega arith) in
    let digit = digit-at c.args.text.now c.loop-digit.digit-index c.loop-digit-test.true number.1 in
    omega (arith, c.loop-digit.invariant.small)
