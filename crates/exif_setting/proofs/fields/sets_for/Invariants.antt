use Rattle.std.proofs.Common.{◌≡◌, [], drop}
use Rattle.exif_setting.specs.Fields.{fields_behind}
use Rattle.exif_setting.specs.InPlace.{sets_of}
use Rattle.exif_change.specs.Reading.{fields_read}
use Rattle.exif_setting.proofs.fields.sets_for.Given as goal

-- the fields that are left make the same
abbrev pub invariant-loop-field : goal.invariant-loop-field
invariant-loop-field l =
    fields_behind (fields_read l.exif) (drop l.field-index l.fields) (sets_of l.sets)
    ≡ fields_behind (fields_read l.exif) l.fields ([], [])
