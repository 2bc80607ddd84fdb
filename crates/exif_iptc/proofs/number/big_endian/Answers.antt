use Rattle.std.proofs.Common.{◌+◌, ◌*◌, ◌<◌, ◌^◌, arith}
use Rattle.exif_iptc.proofs.BigEndian.{eight_fit}
use Rattle.exif_iptc.proofs.number.big_endian.Goals as goal

pub overflow_mul-number : goal.overflow_mul-number
overflow_mul-number c =
    let b : c.loop-i.number * 256 + 0 < 2 ^ 64 = eight_fit c.loop-i.number 0 c.loop-i.i (omega arith) c.loop-i.invariant.below (omega arith) in
    omega arith

pub overflow_add-number : goal.overflow_add-number
overflow_add-number c =
    let b = c.type_inv.bytes c.loop-i.i in
    let small : c.from.result < 256 = omega (arith, b, c.from.ensures) in
    let fits : c.loop-i.number * 256 + c.from.result < 2 ^ 64 = eight_fit c.loop-i.number c.from.result c.loop-i.i (omega arith) c.loop-i.invariant.below small in
    omega arith
