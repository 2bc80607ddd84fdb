use Rattle.std.proofs.Common.{rules, ◌<◌, ◌^◌, length}
use Rattle.exif_containers.specs.Located.{located_view}
use Rattle.exif_edit.proofs.FileSteps.{located_fits}
use Rattle.exif_edit.proofs.file.put_in_file.Goals as goal

pub put_in_item-requires : goal.put_in_item-requires
put_in_item-requires c =
    let small : length c.args.file.now < 2 ^ 64 = search rules in
    let fit = located_fits c.args.file.now (located_view c.args.at.now) c.args.patches.now small
    c.requires.located in
    rw (c.as_mut_slice.ensures.value, c.in_ok-all.ensures, c.as_slice.ensures.value) fit

pub apply-requires : goal.apply-requires
apply-requires c =
    let small : length c.args.file.now < 2 ^ 64 = search rules in
    let fit = located_fits c.args.file.now (located_view c.args.at.now) c.args.patches.now small
    c.requires.located in
    rw (c.as_slice-in-Tiff.ensures.value, c.in_ok-all.ensures, c.as_slice.ensures.value) fit
