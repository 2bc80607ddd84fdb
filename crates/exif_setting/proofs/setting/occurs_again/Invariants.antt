use Rattle.std.proofs.Common.{◌≡◌, false}
use Rattle.exif_setting.specs.Setting.{occurs_again}
use Rattle.exif_setting.proofs.setting.occurs_again.Given as goal

-- the fields that are left have the answer that all of them have
abbrev pub invariant-loop-field : goal.invariant-loop-field
invariant-loop-field l =
    occurs_again l.tag l.seen l.field-iterator ≡ occurs_again l.tag false l.exif.fields
