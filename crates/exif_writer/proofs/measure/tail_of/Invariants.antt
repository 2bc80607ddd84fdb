use Rattle.std.proofs.Common.{take}
use Rattle.exif_writer.specs.Tails.{Tells}
use Rattle.exif_writer.proofs.MeasureTails.{of_fields}
use Rattle.exif_writer.proofs.measure.tail_of.Given as goal

abbrev pub invariant-loop-field : goal.invariant-loop-field
invariant-loop-field l = Tells l.tail (of_fields (take l.field-index l.fields))
