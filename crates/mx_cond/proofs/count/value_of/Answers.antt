use Rattle.std.proofs.Common.{get_or, arith}
use Rattle.std.proofs.lemmas.Int.Digits.{digits_value_more}
use Rattle.std.proofs.lemmas.Str.{digit_value_digit}
use Rattle.std.proofs.lemmas.Str.Parse.{digits_value-take-le}
use Rattle.mx_cond.proofs.DigitLemmas.{digits_value-is_number, digit_in_number}
use Rattle.mx_cond.proofs.count.value_of.Goals as goal

pub overflow_mul-value : goal.overflow_mul-value
overflow_mul-value c =
    let text = c.args.digits.now in
    let part = digits_value-take-le 10 text c.loop-digit.digit-index (omega arith) in
    let whole = digits_value-is_number text c.requires.number in
    omega (arith, c.loop-digit.invariant)

pub overflow_add-value : goal.overflow_add-value
overflow_add-value c =
    let text = c.args.digits.now in
    let part = digits_value-take-le 10 text c.loop-digit.digit-index (omega arith) in
    let whole = digits_value-is_number text c.requires.number in
    let digit = digit_in_number text c.loop-digit.digit-index c.requires.number (omega arith) in
    omega (arith, c.loop-digit.invariant)

pub loop-digit-preserved : goal.loop-digit-preserved
loop-digit-preserved c =
    let text = c.args.digits.now in
    let more = digits_value_more 10 text c.loop-digit.digit-index (omega arith) in
    let digit = digit_in_number text c.loop-digit.digit-index c.requires.number (omega arith) in
    let value = digit_value_digit (get_or text c.loop-digit.digit-index 0) digit in
    omega (arith, c.loop-digit.invariant, c.from.ensures)
