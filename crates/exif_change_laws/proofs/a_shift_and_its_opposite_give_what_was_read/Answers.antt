use Rattle.std.proofs.Common.{◌<◌, ◌^◌, subst, sym}
use Rattle.std.specs.Prelude.{length}
use Rattle.exif_datetime.specs.Shift.{opposite}
use Rattle.exif_change_laws.proofs.ShiftedFiles.{held_again, read_again, was_shifted}
use Rattle.exif_change_laws.proofs.a_shift_and_its_opposite_give_what_was_read.Goals as goal

pub returns : goal.returns
returns c = λ by which file new back lenient few short e f.
    let within = c.limits_cut_readings.ensures.unchanged 1000000 in
    let there = was_shifted by which file new within short e in
    let small : length new < 2 ^ 64 = subst (λ n. n < 2 ^ 64) (sym there.ran.as_long) short in
    let again = was_shifted (opposite by) which new back within small f in
    let held = held_again by which file new back (λ old moved m. c.a_moved_value_is_moved_back.ensures by old moved few m) there again in
    read_again file back there.read lenient there.holds held
