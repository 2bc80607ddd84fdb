use Rattle.std.proofs.Common.{◌≡◌, All, map, take}
use Rattle.exif_tiff.specs.Faults.{text_of}
use Rattle.exif_types.specs.Failures.{told_text, bytes_of, IsInvalidFormat}
use Rattle.exif_reader.proofs.reader.errors_of.Given as goal

-- the errors so far say what the faults so far say
abbrev pub invariant-loop-fault : goal.invariant-loop-fault
invariant-loop-fault l = record {
  texts : map bytes_of (map told_text l.errors.items) ≡ map text_of (take l.fault-index l.faults);
  invalid : All IsInvalidFormat l.errors.items;
}
