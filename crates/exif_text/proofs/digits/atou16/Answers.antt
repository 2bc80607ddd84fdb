use Rattle.std.proofs.Common.{◌≡◌, rules, get_or}
use Rattle.std.specs.Prelude.{Ok}
use Rattle.exif_text.specs.Digits.{digit_in}
use Rattle.exif_text.proofs.DigitsLemmas.{digit_more}
use Rattle.exif_text.proofs.digits.atou16.Goals as goal

pub loop-byte-preserved : goal.loop-byte-preserved
loop-byte-preserved c =
    let read : digit_in (get_or c.args.bytes.now c.loop-byte.byte-index 0) ≡ Ok c.in_ok-number.field-0 = search rules in
    let more = digit_more c.args.bytes.now c.loop-byte.byte-index c.loop-byte.number c.in_ok-number.field-0 c.loop-byte-test.true read
    c.loop-byte.invariant.digits c.loop-byte.invariant.value c.loop-byte.invariant.small in
    record { digits = more.0; value = more.1; small = more.2 }
