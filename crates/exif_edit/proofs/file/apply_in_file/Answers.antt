use Rattle.std.proofs.Common.{rules, ◌<◌, ◌^◌, length}
use Rattle.exif_edit.proofs.FilesSound.{edited_sound}
use Rattle.exif_edit.proofs.file.apply_in_file.Goals as goal

pub returns-then-is_tiff-clause-edited : goal.returns-then-is_tiff-clause-edited
returns-then-is_tiff-clause-edited c =
    let small : length c.args.file.now < 2 ^ 64 = search rules in
    edited_sound c.args.limit c.args.edit.now c.args.file.now c.apply_in_tiff.new.file
    c.apply_in_tiff.result small c.apply_in_tiff.ensures

pub returns-clause-edited : goal.returns-clause-edited
returns-clause-edited c =
    let small : length c.args.file.now < 2 ^ 64 = search rules in
    edited_sound c.args.limit c.args.edit.now c.args.file.now c.apply_in_container.new.file
    c.apply_in_container.result small c.apply_in_container.ensures
