use Rattle.std.proofs.Common.{◌≡◌, map, take}
use Rattle.exif_writer.specs.Sending.{symbol}
use Rattle.exif_writer.proofs.MeasureTails.{of_fields}
use Rattle.exif_writer.proofs.plan.known_slots.Given as goal

abbrev pub invariant-loop-field : goal.invariant-loop-field
invariant-loop-field l = map symbol l.slots.items ≡ of_fields (take l.field-index l.fields)
