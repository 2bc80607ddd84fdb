use Rattle.std.proofs.Common.{◌≡◌, drop}
use Rattle.std.specs.Prelude.{None}
use Rattle.exif_data_locations.proofs.ThumbnailSteps.{number_or}
use Rattle.exif_data_locations.proofs.thumbnail.number_named.Given as goal

-- the fields that are left, behind what those before them have, are all fields
abbrev pub invariant-loop-field : goal.invariant-loop-field
invariant-loop-field l = number_or l.last l.number (drop l.field-index l.fields) ≡ number_or None l.number l.fields
