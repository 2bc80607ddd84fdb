use Rattle.std.proofs.Common.{◌≡◌, ◌-◌, ◌<◌, ◌^◌, length, arith, ap, ◌∙◌, sym}
use Rattle.std.proofs.lemmas.List.{take_all}
use Rattle.std.specs.Str.Parse.{digits_value}
use Rattle.exif_text.proofs.SubsecLemmas.{digit_in_range, value_more, value_with_zeros, place_small, next_small, next_below}
use Rattle.exif_text.proofs.subsec.nanoseconds.Goals as goal

pub overflow_mul-number : goal.overflow_mul-number
overflow_mul-number c = omega (arith, next_small c.loop-digit.number c.loop-digit.digit-index 0 c.loop-digit.invariant.1 (omega arith) (omega arith))

pub overflow_add-number : goal.overflow_add-number
overflow_add-number c =
    let digit = digit_in_range c.args.digits.now c.loop-digit.digit-index c.requires.digits c.loop-digit-test.true in
    omega (arith, next_small c.loop-digit.number c.loop-digit.digit-index c.from.result c.loop-digit.invariant.1 (omega arith) (omega arith))

pub loop-digit-preserved : goal.loop-digit-preserved
loop-digit-preserved c =
    let digit = digit_in_range c.args.digits.now c.loop-digit.digit-index c.requires.digits c.loop-digit-test.true in (
      omega (arith, value_more c.args.digits.now c.loop-digit.digit-index c.requires.digits c.loop-digit-test.true),
      next_below c.loop-digit.number c.loop-digit.digit-index c.from.result c.loop-digit.invariant.1 (omega arith),
    )

-- the loop has read all digits
all_read : (c : goal.After-pow) → c.loop-digit.digit-index ≡ length c.args.digits.now
all_read c = omega arith

pub overflow_mul-result : goal.overflow_mul-result
overflow_mul-result c =
    let read = all_read c in
    let low : c.loop-digit.number < 10 ^ length c.args.digits.now = rw (← read) c.loop-digit.invariant.1 in
    rw c.pow.ensures (omega (arith, place_small c.loop-digit.number (length c.args.digits.now) low c.requires.few))

pub returns : goal.returns
returns c =
    let digits = c.args.digits.now in
    let value : c.loop-digit.number ≡ digits_value 10 digits = c.loop-digit.invariant.0 ∙ ap (digits_value 10) (take_all c.loop-digit.digit-index digits c.loop-digit-test.false) in
    rw (value, c.pow.ensures) (sym (value_with_zeros digits (9 - length digits)))
