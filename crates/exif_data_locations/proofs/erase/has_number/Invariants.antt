use Rattle.std.proofs.Common.{◌≡◌, drop}
use Rattle.exif_data_locations.specs.Erasing.{has_number}
use Rattle.exif_data_locations.proofs.erase.has_number.Given as goal

-- whether one of the fields that are left has it
abbrev pub invariant-loop-field : goal.invariant-loop-field
invariant-loop-field l = has_number l.number l.fields ≡ has_number l.number (drop l.field-index l.fields)
