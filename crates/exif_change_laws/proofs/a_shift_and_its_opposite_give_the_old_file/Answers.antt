use Rattle.std.proofs.Common.{◌<◌, ◌^◌, subst, sym}
use Rattle.std.specs.Prelude.{length}
use Rattle.exif_datetime.specs.Shift.{opposite}
use Rattle.exif_change_laws.proofs.ShiftedBack.{given_back}
use Rattle.exif_change_laws.proofs.ShiftedFiles.{was_shifted}
use Rattle.exif_change_laws.proofs.a_shift_and_its_opposite_give_the_old_file.Goals as goal

pub returns : goal.returns
returns c = λ by which file new back few short are e f keeps.
    let within = c.limits_cut_readings.ensures.unchanged 1000000 in
    let there = was_shifted by which file new within short e in
    let small : length new < 2 ^ 64 = subst (λ n. n < 2 ^ 64) (sym there.ran.as_long) short in
    let again = was_shifted (opposite by) which new back within small f in
    given_back by which file new back (λ v w m. c.a_moved_value_is_moved_back.ensures by v w few m) are short there again keeps
